-- The length of so long an array is a law's, and is not computed.
use mathlib.Core.Path.{sym}
use Prim.Native.Nat.{ℕ}
use lib.ListN.{length-replicate}
use Prim.Native.Nat.{◌*◌}
use Rattle.lacking.specs.Walk.{cell_bytes, most_cells}
use Rattle.mend.proofs.empty_list.Goals as goal

pub returns : goal.returns
returns c = sym (length-replicate {A = ℕ} (cell_bytes * most_cells) 0)
