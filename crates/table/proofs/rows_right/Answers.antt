-- `table::rows_right`: what is left to test answers for the whole.
use mathlib.Core.Path.{sym, ◌∙◌, ap}
use native.Mathlib.Omega.{arith}
use Rattle.laws.specs.Fold.{all}
use Rattle.laws.proofs.FoldLaws.{all-fails, all-goes-on, all-passed}
use Rattle.table.specs.Rows.{comp_rows_right, rows_right}
use Rattle.table.proofs.rows_right.Goals as goal

pub loop-i-init : goal.loop-i-init
unfolding rows_right
loop-i-init c = ap (all (comp_rows_right c.args.t.now) 0) c.count_of-count.ensures

pub comp_rows_right-requires : goal.comp_rows_right-requires
comp_rows_right-requires c = (c.requires, omega (arith, c.count_of-count.ensures))

pub returns-then-not-comp_rows_right : goal.returns-then-not-comp_rows_right
returns-then-not-comp_rows_right c = let args = c.args in
    let count-of = c.count_of-count in
    let loop = c.loop-i in
    let loop-test = c.loop-i-test in
    let comp-rows-right = c.comp_rows_right in
    all-fails (comp_rows_right args.t.now) loop.i count-of.result loop.invariant loop-test.true (sym comp-rows-right.ensures
    ∙ c.if-not-comp_rows_right.true)

pub overflow_step-i : goal.overflow_step-i
overflow_step-i c = omega arith

pub loop-i-smaller : goal.loop-i-smaller
loop-i-smaller c = omega arith

pub loop-i-preserved : goal.loop-i-preserved
loop-i-preserved c = let args = c.args in
    let count-of = c.count_of-count in
    let loop = c.loop-i in
    let loop-test = c.loop-i-test in
    let comp-rows-right = c.comp_rows_right in
    all-goes-on (comp_rows_right args.t.now) loop.i count-of.result loop.invariant loop-test.true (sym comp-rows-right.ensures
    ∙ c.if-not-comp_rows_right.false)

pub returns : goal.returns
returns c = let args = c.args in
    let count-of = c.count_of-count in
    let loop = c.loop-i in
    all-passed (comp_rows_right args.t.now) loop.i count-of.result loop.invariant c.loop-i-test.false
