-- What each turn of the loop of `linking::singles` keeps.
use mathlib.Core.Path.{◌≡◌}
use Prim.Native.Nat.{ℕ, ◌-◌, ◌≤◌, ◌<◌}
use lib.ListN.{length, get_or}
use Rattle.laws.specs.Sets.{only}
use Rattle.answer.specs.Limits.{max_actions}
use Rattle.linking.proofs.singles.Given as goal

abbrev pub invariant-loop-a : goal.invariant-loop-a
invariant-loop-a l = (length l.table ≡ max_actions) × (l.a ≤ max_actions) × ((j : ℕ) → j < l.a → get_or l.table j 0 ≡ only j)

abbrev pub decreases-loop-a : goal.decreases-loop-a
decreases-loop-a l = max_actions - l.a
