-- What each turn of the loop of `pairs::clash_set` keeps.
use mathlib.Core.Path.{◌≡◌}
use Prim.Native.Nat.{◌-◌, ◌≤◌}
use Rattle.laws.specs.Sets.{◌∪◌}
use Rattle.laws.specs.Fold.{over}
use Rattle.pairs.specs.Clashes.{left_below, right_below, clash_at}
use Rattle.pairs.proofs.clash_set.Given as goal

abbrev pub invariant-loop-i : goal.invariant-loop-i
invariant-loop-i l = (l.i ≤ l.n) × (l.left ≡ left_below l.kind l.t l.i) × (l.right ≡ right_below l.kind l.t l.i) × (l.all ≡ over (λ j s. s ∪ clash_at l.kind l.t j) 0 l.i 0)

abbrev pub decreases-loop-i : goal.decreases-loop-i
decreases-loop-i l = l.n - l.i
