-- `treerows::emit_row` meets its contract: the row, if there is one.
use native.Mathlib.Omega.{arith}
use Rattle.treerows.proofs.RowLaws.{emitted, passed, line-few}
use Rattle.treerows.proofs.emit_row.Goals as goal

pub overflow_add-result-2 : goal.overflow_add-result-2
overflow_add-result-2 c = omega (arith, c.requires.4.bytes, line-few _ _ c.line_width.ensures)

pub returns : goal.returns
returns c = let a = c.args in
    emitted _ _ c.move_of.ensures a.s a.a a.limit a.n _ _ c.in-Some.is _ _ c.put_row.ensures c.line_width.ensures

pub returns-in_default : goal.returns-in_default
returns-in_default c = let a = c.args in
    passed _ _ c.move_of.ensures a.s a.a a.limit a.n _ c.in_default.is
