-- What each turn of the loop of `leads::enabled_at` keeps.
use mathlib.Core.Path.{◌≡◌}
use mathlib.Core.List.{List}
use Prim.Native.Nat.{ℕ, ◌-◌, ◌≤◌}
use Rattle.laws.specs.Sets.{◌∪◌, only}
use Rattle.laws.specs.Fold.{over}
use Rattle.layout.specs.Layout.{action_at}
use Rattle.leads.proofs.enabled_at.Given as goal

abbrev pub joins : List ℕ → ℕ → ℕ → ℕ
joins t = λ r x. x ∪ only (action_at t r)

abbrev pub invariant-loop-r : goal.invariant-loop-r
invariant-loop-r l = (l.lo ≤ l.r) × (over (joins l.t) l.r l.hi l.all ≡ over (joins l.t) l.lo l.hi 0)

abbrev pub decreases-loop-r : goal.decreases-loop-r
decreases-loop-r l = l.hi - l.r
