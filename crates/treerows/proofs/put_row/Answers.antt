-- `treerows::put_row` meets its contract: four words, where the row is below the limit.
use native.Mathlib.Omega.{arith}
use lib.ListN.{length-set}
use Rattle.product.proofs.WalkLaws.{row_written, row-unwritten}
use Rattle.treerows.proofs.put_row.Goals as goal

pub bounds-into-at : goal.bounds-into-at
bounds-into-at c = let z = c.requires.0 (omega (arith, c.if-k-limit.true)) in omega (arith, z, c.if-k-limit.true, c.requires.1)

pub bounds-into-at-then-k-limit : goal.bounds-into-at-then-k-limit
bounds-into-at-then-k-limit c = let z = c.requires.0 (omega (arith, c.if-k-limit.true)) in simp length-set (omega (arith, z, c.if-k-limit.true, c.requires.1))

pub bounds-into-at-then-k-limit-2 : goal.bounds-into-at-then-k-limit-2
bounds-into-at-then-k-limit-2 c = let z = c.requires.0 (omega (arith, c.if-k-limit.true)) in simp length-set (omega (arith, z, c.if-k-limit.true, c.requires.1))

pub bounds-into-at-then-k-limit-3 : goal.bounds-into-at-then-k-limit-3
bounds-into-at-then-k-limit-3 c = let z = c.requires.0 (omega (arith, c.if-k-limit.true)) in simp length-set (omega (arith, z, c.if-k-limit.true, c.requires.1))

pub returns-then-k-limit : goal.returns-then-k-limit
returns-then-k-limit c = row_written _ _ _ _ _ _ _ c.if-k-limit.true

pub returns-else-k-limit : goal.returns-else-k-limit
returns-else-k-limit c = row-unwritten _ _ _ _ c.if-k-limit.false
