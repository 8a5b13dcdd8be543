-- `mending::mend`: raised, and put.
use mathlib.Core.Path.{◌∙◌}
use native.Mathlib.Omega.{arith}
use Rattle.layout.proofs.RowsOfRange.{well-formed}
use Rattle.lacking.proofs.Counts.{repaired-row-count}
use Rattle.mending.proofs.Whole.{begun, begun-new}
use Rattle.mending.proofs.mend.Goals as goal

pub raise_rows-requires : goal.raise_rows-requires
raise_rows-requires c = let p = c.requires in (p.0, omega (arith, p.2, p.1.rows, repaired-row-count _ (well-formed _ p.0)))

pub put_all-requires : goal.put_all-requires
put_all-requires c = let p = c.requires in
    begun _ p.0 p.1 _ p.2 _ c.raise_rows.ensures

pub returns : goal.returns
returns c = let p = c.requires in
    c.put_all.ensures (begun _ p.0 p.1 _ p.2 _ c.raise_rows.ensures)
    ∙ begun-new _ p.0 p.1 _ p.2 _ c.raise_rows.ensures
