-- `measure::line_width`: the fields of a `row` line.
use native.Mathlib.Omega.{arith}
use Rattle.measure.proofs.Fields.{width-most, guard-most, set-most}
use Rattle.measure.proofs.Lines.{row-line}
use Rattle.measure.proofs.line_width.Goals as goal

pub overflow_add-result : goal.overflow_add-result
overflow_add-result c = let a = c.args in omega (arith, width-most a.from)

pub overflow_add-result-2 : goal.overflow_add-result-2
overflow_add-result-2 c = let a = c.args in omega (arith, width-most a.from, guard-most a.guard)

pub overflow_add-result-3 : goal.overflow_add-result-3
overflow_add-result-3 c = let a = c.args in omega (arith, width-most a.from, guard-most a.guard, width-most a.action)

pub overflow_add-result-4 : goal.overflow_add-result-4
overflow_add-result-4 c = let a = c.args in
    omega (arith, width-most a.from, guard-most a.guard, width-most a.action, set-most a.resets)

pub overflow_add-result-5 : goal.overflow_add-result-5
overflow_add-result-5 c = let args = c.args in
    let a = args in omega (arith, width-most a.from, guard-most a.guard, width-most a.action, set-most a.resets, width-most a.target)

pub returns : goal.returns
returns c = let a = c.args in
    omega (arith, row-line (record { from = a.from; guard = a.guard; action = a.action; resets = a.resets; target = a.target }))
