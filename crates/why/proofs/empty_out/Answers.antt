-- The length of so long an array is a law's, and is not computed.
use mathlib.Core.Path.{sym}
use Prim.Native.Nat.{ℕ}
use lib.ListN.{length-replicate}
use Rattle.explaining.specs.Longest.{explanation_bytes}
use Rattle.why.proofs.empty_out.Goals as goal

pub returns : goal.returns
returns c = sym (length-replicate {A = ℕ} explanation_bytes 0)
