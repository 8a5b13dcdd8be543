-- `printout::empty_out`: the length of so long an array is a law's, and is not computed.
use mathlib.Core.Path.{sym}
use Prim.Native.Nat.{ℕ}
use lib.ListN.{length-replicate}
use Rattle.steplines.specs.Run.{most_bytes}
use Rattle.printout.proofs.empty_out.Goals as goal

pub returns : goal.returns
returns c = sym (length-replicate {A = ℕ} most_bytes 0)
