-- `treenames::check_names` meets its contract. The loop's invariant: what is asked of the lines from here on is what is asked of all.
use mathlib.Core.Path.{sym, ◌∙◌}
use native.Mathlib.Omega.{arith}
use lib.ListN.{length-drop}
use Rattle.treenames.proofs.Passing.{line-there, first_read, fewer_bytes}
use Rattle.treenames.proofs.NameLaws.{asked-begins, names-fine, few, names-out, names-on}
use Rattle.treenames.proofs.check_names.Goals as goal

pub loop-at-init : goal.loop-at-init
loop-at-init c = asked-begins _ _ _ c.requires.1 c.requires.2

pub line_at-line-requires : goal.line_at-line-requires
line_at-line-requires c = line-there _ _ _ c.loop-at.invariant.left c.loop-at-test.true

pub column-k-requires : goal.column-k-requires
column-k-requires c =
    let here = first_read c.args.text.now c.loop-at.at c.loop-at.invariant.rest c.loop-at.invariant.left c.loop-at-test.true c.line_at-line.result c.line_at-line.ensures in
    few c.args.text.now _ _ _ c.loop-at.invariant _ _ here

pub returns-then-not-all_in : goal.returns-then-not-all_in
returns-then-not-all_in c =
    let here = first_read c.args.text.now c.loop-at.at c.loop-at.invariant.rest c.loop-at.invariant.left c.loop-at-test.true c.line_at-line.result c.line_at-line.ensures in
    names-out c.args.text.now _ _ _ c.loop-at.invariant _ _ here
    (sym c.all_in.ensures ∙ c.if-not-all_in.true) _ c.column-k.ensures

pub overflow_add-n : goal.overflow_add-n
overflow_add-n c = omega (arith, c.loop-at.invariant.count, c.loop-at-test.true, length-drop c.loop-at.at c.args.text.now, c.well_formed)

pub loop-at-smaller : goal.loop-at-smaller
loop-at-smaller c =
    let shorter = fewer_bytes c.args.text.now c.loop-at.at c.loop-at.invariant.rest c.loop-at.invariant.left c.loop-at-test.true c.line_at-line.result c.line_at-line.ensures in
    shorter

pub loop-at-preserved : goal.loop-at-preserved
loop-at-preserved c =
    let here = first_read c.args.text.now c.loop-at.at c.loop-at.invariant.rest c.loop-at.invariant.left c.loop-at-test.true c.line_at-line.result c.line_at-line.ensures in
    let shorter = fewer_bytes c.args.text.now c.loop-at.at c.loop-at.invariant.rest c.loop-at.invariant.left c.loop-at-test.true c.line_at-line.result c.line_at-line.ensures in
    names-on c.args.text.now _ _ _ c.loop-at.invariant _ _ here (sym c.all_in.ensures ∙ c.if-not-all_in.false) shorter

pub returns : goal.returns
returns c = names-fine _ _ _ _ c.loop-at.invariant c.loop-at-test.false
