-- `printout::empty_input`: the length of so long an array is a law's, and is not computed.
use mathlib.Core.Path.{sym}
use Prim.Native.Nat.{ℕ, ◌+◌}
use lib.ListN.{length-replicate}
use Rattle.answer.specs.Limits.{max_bytes}
use Rattle.printout.proofs.empty_input.Goals as goal

pub returns : goal.returns
returns c = sym (length-replicate {A = ℕ} (max_bytes + 1) 0)
