-- `naming::names_length` meets its contract.
use mathlib.Core.Path.{◌≡◌, ◌∙◌, ap}
use native.Mathlib.Numerals.{add-one}
use native.Mathlib.Omega.{arith}
use lib.ListN.{length, length-append}
use Rattle.answer.specs.Limits.{max_actions}
use Rattle.named.specs.NamedText.{defaults, sheet_text}
use Rattle.naminglaws.specs.Naming.{name_part}
use Rattle.naminglaws.proofs.SheetLaws.{sheet-none, sheet-next, name-most}
use Rattle.naming.proofs.names_length.Goals as goal

pub loop-a-init : goal.loop-a-init
loop-a-init c = (omega arith, omega (arith, ap length (sheet-none c.args.set)), omega arith)

pub overflow_add-sum : goal.overflow_add-sum
overflow_add-sum c = omega (arith, c.loop-a.invariant.2, c.name_length-sum.ensures, name-most c.args.set c.loop-a.a, c.loop-a-test.true)

pub loop-a-preserved : goal.loop-a-preserved
loop-a-preserved c = let d = c.args.set in
    let a = c.loop-a.a in
    let n = ap (λ i. length (sheet_text (defaults d i))) (add-one a) ∙ ap length (sheet-next d a) ∙ length-append (sheet_text (defaults d a)) (name_part d a) in
    let w = c.name_length-sum.ensures in
    (omega (arith, c.loop-a-test.true), omega (arith, c.loop-a.invariant.1, w, n), omega (arith, c.loop-a.invariant.2, w, name-most d a))

pub returns : goal.returns
returns c = let e : c.loop-a.a ≡ max_actions = omega (arith, c.loop-a.invariant.0, c.loop-a-test.false) in
    c.loop-a.invariant.1 ∙ ap (λ i. length (sheet_text (defaults c.args.set i))) e
