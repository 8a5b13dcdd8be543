-- `lacking::walk_cell`: the cell is put, counted and measured.
use native.Mathlib.Omega.{arith}
use Rattle.lacking.proofs.WalkLaws.{width_is, rows-below, list-long, bytes_fit, cell-walked}
use Rattle.lacking.proofs.walk_cell.Goals as goal

pub put_cell-requires : goal.put_cell-requires
put_cell-requires c = let p = c.requires in
    (omega (arith, p.0), omega (arith, p.1), omega (arith, p.2), rows-below _ _ _ p.3, list-long _ _ _ p.3)

pub overflow_add-result : goal.overflow_add-result
overflow_add-result c = omega (arith, rows-below _ _ _ c.requires.3)

pub overflow_add-result-2 : goal.overflow_add-result-2
overflow_add-result-2 c = bytes_fit _ _ _ c.requires.3 _ (width_is c.args.x.component _ _ _ c.line_width.ensures)

pub returns : goal.returns
returns c = cell-walked _ c.args.n _ _ _ _ c.put_cell.ensures (width_is c.args.x.component _ _ _ c.line_width.ensures)
