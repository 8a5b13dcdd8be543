-- `columns::value_column` meets its contract: no sum passes a word.
use native.Mathlib.Omega.{arith}
use Rattle.measure.proofs.Fields.{width-most}
use Rattle.columns.proofs.value_column.Goals as goal

pub overflow_add-result : goal.overflow_add-result
overflow_add-result c = omega (arith, c.width.ensures, width-most c.in-Comp.states)

pub overflow_add-result-in-Clk : goal.overflow_add-result-in-Clk
overflow_add-result-in-Clk c = omega (arith, c.width-in-Clk.ensures, width-most c.in-Clk.clock)
