-- What each turn of the loop of `rows::find_guard` keeps.
use mathlib.Core.Path.{◌≡◌}
use Prim.Native.Nat.{◌-◌, ◌≤◌}
use Rattle.rows.specs.Ranges.{by_guard}
use Rattle.rows.proofs.find_guard.Given as goal

abbrev pub invariant-loop-k : goal.invariant-loop-k
invariant-loop-k l = (l.lo ≤ l.k) × (by_guard l.t l.g l.k l.hi ≡ by_guard l.t l.g l.lo l.hi)

abbrev pub decreases-loop-k : goal.decreases-loop-k
decreases-loop-k l = l.hi - l.k
