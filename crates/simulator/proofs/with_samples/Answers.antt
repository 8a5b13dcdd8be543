-- The length of so long an array is a law's, and is not computed.
use mathlib.Core.Path.{sym}
use Prim.Native.Nat.{ℕ}
use lib.ListN.{length-replicate}
use Rattle.simulator.proofs.with_samples.Goals as goal

pub slice_bounds-read_samples-end : goal.slice_bounds-read_samples-end
slice_bounds-read_samples-end c = sym (length-replicate {A = ℕ} 4194304 0)
