-- What each turn of the loop of `words::state_of` keeps.
use mathlib.Core.Path.{◌≡◌}
use Prim.Native.Nat.{ℕ, ◌<◌, ◌≤◌}
use lib.ListN.{length, get_or}
use Rattle.answer.specs.Limits.{max_components}
use Rattle.words.proofs.state_of.Given as goal

abbrev pub invariant-loop-i : goal.invariant-loop-i
invariant-loop-i l = (l.i ≤ max_components) × (length l.parts ≡ max_components) × ((k : ℕ) → k < l.i → get_or l.parts k 0 ≡ get_or l.bytes k 0)
