-- What each turn of the loop of `parts::actions_at` keeps.
use mathlib.Core.Path.{◌≡◌}
use Prim.Native.Nat.{◌-◌, ◌≤◌}
use Rattle.laws.specs.Sets.{◌∪◌, only}
use Rattle.laws.specs.Fold.{over}
use Rattle.layout.specs.Layout.{action_at}
use Rattle.parts.proofs.actions_at.Given as goal

abbrev pub invariant-loop-k : goal.invariant-loop-k
invariant-loop-k l = (l.lo ≤ l.k) × (over (λ r x. x ∪ only (action_at l.t r)) l.k l.hi l.seen ≡ over (λ r x. x ∪ only (action_at l.t r)) l.lo l.hi 0)

abbrev pub decreases-loop-k : goal.decreases-loop-k
decreases-loop-k l = l.hi - l.k
