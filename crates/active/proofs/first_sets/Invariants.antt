-- What each turn of the loop of `active::first_sets` keeps.
use mathlib.Core.Path.{◌≡◌}
use Prim.Native.Nat.{ℕ, ◌-◌, ◌≤◌, ◌<◌}
use lib.ListN.{length, get_or}
use Rattle.answer.specs.Limits.{max_states}
use Rattle.iosa.specs.Checks.{allowed}
use Rattle.layout.specs.Image.{comp_of}
use Rattle.active.proofs.first_sets.Given as goal

abbrev pub invariant-loop-s : goal.invariant-loop-s
invariant-loop-s l = (l.s ≤ l.states) × (length l.act ≡ max_states) × ((j : ℕ) → j < l.s → get_or l.act j 0 ≡ allowed (comp_of l.t l.i) j)

abbrev pub decreases-loop-s : goal.decreases-loop-s
decreases-loop-s l = l.states - l.s
