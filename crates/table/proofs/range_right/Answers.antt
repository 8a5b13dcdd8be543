-- `table::range_right`: what is left to test answers for the whole.
use mathlib.Core.Path.{refl, sym, ◌∙◌}
use native.Mathlib.Omega.{arith}
use Rattle.laws.proofs.FoldLaws.{all-fails, all-goes-on, all-passed}
use Rattle.table.specs.Rows.{row_right}
use Rattle.table.proofs.range_right.Goals as goal

pub loop-r-init : goal.loop-r-init
loop-r-init c = refl

pub returns-then-not-row_right : goal.returns-then-not-row_right
returns-then-not-row_right c = let args = c.args in
    let loop = c.loop-r in
    let loop-test = c.loop-r-test in
    let row-right = c.row_right in
    all-fails (row_right args.t.now args.acts args.clocks args.states) loop.r args.hi loop.invariant loop-test.true
    (sym row-right.ensures ∙ c.if-not-row_right.true)

pub overflow_step-r : goal.overflow_step-r
overflow_step-r c = omega arith

pub loop-r-smaller : goal.loop-r-smaller
loop-r-smaller c = omega arith

pub loop-r-preserved : goal.loop-r-preserved
loop-r-preserved c = let args = c.args in
    let loop = c.loop-r in
    let loop-test = c.loop-r-test in
    let row-right = c.row_right in
    all-goes-on (row_right args.t.now args.acts args.clocks args.states) loop.r args.hi loop.invariant loop-test.true
    (sym row-right.ensures ∙ c.if-not-row_right.false)

pub returns : goal.returns
returns c = let args = c.args in
    let loop = c.loop-r in
    all-passed (row_right args.t.now args.acts args.clocks args.states) loop.r args.hi loop.invariant c.loop-r-test.false
