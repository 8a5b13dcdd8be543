-- `measure::head_width`: the `comp` line, and the lines of each kind of action and of the clocks.
use native.Mathlib.Omega.{arith}
use Rattle.measure.proofs.Lines.{bare-width}
use Rattle.measure.proofs.Bounds.{bare-most}
use Rattle.measure.proofs.head_width.Goals as goal

pub overflow_add-result : goal.overflow_add-result
overflow_add-result c = let a = c.args in
    omega (
      arith,
      bare-width a.states a.start a.ins a.outs a.uins a.uouts a.clocks,
      bare-most a.states a.start a.ins a.outs a.uins a.uouts a.clocks,
    )

pub overflow_add-result-2 : goal.overflow_add-result-2
overflow_add-result-2 c = let a = c.args in
    omega (
      arith,
      bare-width a.states a.start a.ins a.outs a.uins a.uouts a.clocks,
      bare-most a.states a.start a.ins a.outs a.uins a.uouts a.clocks,
    )

pub overflow_add-result-3 : goal.overflow_add-result-3
overflow_add-result-3 c = let a = c.args in
    omega (
      arith,
      bare-width a.states a.start a.ins a.outs a.uins a.uouts a.clocks,
      bare-most a.states a.start a.ins a.outs a.uins a.uouts a.clocks,
    )

pub overflow_add-result-4 : goal.overflow_add-result-4
overflow_add-result-4 c = let a = c.args in
    omega (
      arith,
      bare-width a.states a.start a.ins a.outs a.uins a.uouts a.clocks,
      bare-most a.states a.start a.ins a.outs a.uins a.uouts a.clocks,
    )

pub returns : goal.returns
returns c = let a = c.args in
    omega (arith, bare-width a.states a.start a.ins a.outs a.uins a.uouts a.clocks)
