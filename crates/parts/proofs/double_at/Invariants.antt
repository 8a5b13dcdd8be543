-- What each turn of the loop of `parts::double_at` keeps.
use mathlib.Core.Path.{◌≡◌}
use Prim.Native.Nat.{◌-◌, ◌≤◌}
use Rattle.laws.specs.Search.{seek, when}
use Rattle.parts.specs.Faults.{again_at}
use Rattle.parts.proofs.double_at.Given as goal

abbrev pub invariant-loop-k : goal.invariant-loop-k
invariant-loop-k l = (l.second ≤ l.k) × (seek (λ r. when (again_at l.t l.calm r) r) l.k l.hi ≡ seek (λ r. when (again_at l.t l.calm r) r) l.second l.hi)

abbrev pub decreases-loop-k : goal.decreases-loop-k
decreases-loop-k l = l.hi - l.k
