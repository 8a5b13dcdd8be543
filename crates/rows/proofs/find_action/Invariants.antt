-- What each turn of the loop of `rows::find_action` keeps.
use mathlib.Core.Path.{◌≡◌}
use Prim.Native.Nat.{◌-◌, ◌≤◌}
use Rattle.rows.specs.Ranges.{by_action}
use Rattle.rows.proofs.find_action.Given as goal

abbrev pub invariant-loop-k : goal.invariant-loop-k
invariant-loop-k l = (l.lo ≤ l.k) × (by_action l.t l.a l.k l.hi ≡ by_action l.t l.a l.lo l.hi)

abbrev pub decreases-loop-k : goal.decreases-loop-k
decreases-loop-k l = l.hi - l.k
