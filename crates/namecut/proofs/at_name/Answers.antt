-- `namecut::at_name` meets its contract.
use mathlib.Core.Path.{◌≡◌, sym, ◌∙◌, ap, subst}
use Prim.Native.Nat.{◌+◌}
use native.Mathlib.Omega.{arith}
use lib.ListN.{drop}
use Rattle.namefields.specs.NameFields.{found_is}
use Rattle.namelines.specs.NamedLines.{code_of, before_name}
use Rattle.namelaws.proofs.NameTurns.{ReadAs, read_as, line-inside}
use Rattle.cutlaws.specs.Cutting.{HasName}
use Rattle.cutlaws.proofs.LineCuts.{cut-named, cut-unknown}
use Rattle.namecut.specs.Cuts.{CutAs}
use Rattle.namecut.proofs.at_name.Goals as goal
use Rattle.namecut.proofs.at_name.Goals.{After-before_name}

here : (c : After-before_name) → let a = c.args in ReadAs a.text.now a.at a.l a.next
here c = read_as c.args.text.now c.args.at c.args.l c.args.next c.requires.1

before : (c : After-before_name) → c.before_name.result ≡ before_name (code_of (here c).it)
before c = c.before_name.ensures ∙ ap before_name (sym (here c).code)

pub overflow_add-stop : goal.overflow_add-stop
overflow_add-stop c = let t = c.args.text.now in
    omega (arith, line-inside t c.args.at (drop c.args.next t) (here c).it (here c).here c.requires.3, before c, c.requires.5)

pub returns : goal.returns
returns c = let a = c.args in
    let h = here (goal.at.returns c).After-before_name in
    let n = c.before_name.result in
    cut-named a.text.now a.places.now a.at a.next (omega (arith, c.requires.3))
    c.requires.4 (a.at + n) c.in_ok-action.action c.name_end-go.result h.it h.here
    (subst HasName (sym h.code) c.requires.2) (ap (λ b. a.at + b) (before (goal.at.returns c).After-before_name))
    (sym c.action_named.ensures ∙ ap found_is c.in_ok-action.was) c.name_end-go.ensures

pub returns-in_err-action : goal.returns-in_err-action
returns-in_err-action c = let a = c.args in
    let h = here (goal.at.returns-in_err-action c).After-before_name in
    let n = c.before_name.result in
    subst (CutAs a.text.now a.places.now a.at) (sym c.from_residual.ensures)
    (cut-unknown a.text.now a.places.now a.at a.next (omega (arith, c.requires.3)) c.requires.4
    (a.at + n) h.it h.here (subst HasName (sym h.code) c.requires.2)
    (ap (λ b. a.at + b) (before (goal.at.returns-in_err-action c).After-before_name)) (sym c.action_named.ensures ∙ ap found_is c.in_err-action.was))
