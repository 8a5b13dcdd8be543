-- `measure::rows_width`: what is counted and what is left make the whole.
use native.Mathlib.Omega.{arith}
use Rattle.layout.specs.Image.{row_in}
use Rattle.measure.proofs.Lines.{rows_next, rows-done, range-most}
use Rattle.measure.proofs.rows_width.Goals as goal

pub loop-r-init : goal.loop-r-init
loop-r-init c = omega arith

pub overflow_add-sum : goal.overflow_add-sum
overflow_add-sum c = let args = c.args in
    let loop = c.loop-r in
    let hi = args.hi in
    let s = args.s in
    let t = args.t.now in
    omega (arith, rows_next (row_in t s) loop.r hi c.loop-r-test.true, range-most (row_in t s) args.lo hi)

pub overflow_step-r : goal.overflow_step-r
overflow_step-r c = omega arith

pub loop-r-smaller : goal.loop-r-smaller
loop-r-smaller c = omega arith

pub loop-r-preserved : goal.loop-r-preserved
loop-r-preserved c = let args = c.args in
    let loop = c.loop-r in
    omega (arith, rows_next (row_in args.t.now args.s) loop.r args.hi c.loop-r-test.true)

pub returns : goal.returns
returns c = let args = c.args in
    omega (arith, rows-done (row_in args.t.now args.s) c.loop-r.r args.hi c.loop-r-test.false)
