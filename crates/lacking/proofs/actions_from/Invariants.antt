-- What each turn of the loop of `lacking::actions_from` keeps.
use mathlib.Core.Path.{◌≡◌}
use Prim.Native.Nat.{◌-◌, ◌≤◌}
use Rattle.laws.specs.Sets.{◌∪◌, only}
use Rattle.laws.specs.Fold.{over}
use Rattle.layout.specs.Layout.{action_at}
use Rattle.lacking.specs.Walk.{actions_from}
use Rattle.lacking.proofs.actions_from.Given as goal

abbrev pub invariant-loop-k : goal.invariant-loop-k
invariant-loop-k l = (l.lo ≤ l.k) × (over (λ r x. x ∪ only (action_at l.t r)) l.k l.hi l.seen ≡ actions_from l.t l.lo l.hi)

abbrev pub decreases-loop-k : goal.decreases-loop-k
decreases-loop-k l = l.hi - l.k
