-- What each turn of the loop of `active::enabling` keeps.
use mathlib.Core.Path.{◌≡◌}
use Prim.Native.Nat.{◌-◌, ◌≤◌}
use Rattle.laws.specs.Sets.{◌∪◌}
use Rattle.laws.specs.Fold.{over}
use Rattle.model.specs.Model.{guard_set}
use Rattle.layout.specs.Layout.{guard_at}
use Rattle.active.proofs.enabling.Given as goal

abbrev pub invariant-loop-k : goal.invariant-loop-k
invariant-loop-k l = (l.lo ≤ l.k) × (over (λ r x. x ∪ guard_set (guard_at l.t r)) l.k l.hi l.all ≡ over (λ r x. x ∪ guard_set (guard_at l.t r)) l.lo l.hi 0)

abbrev pub decreases-loop-k : goal.decreases-loop-k
decreases-loop-k l = l.hi - l.k
