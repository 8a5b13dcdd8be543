-- What each turn of the loop of `active::narrow_state` keeps.
use mathlib.Core.Path.{◌≡◌}
use Prim.Native.Nat.{◌-◌, ◌≤◌}
use Rattle.laws.specs.Fold.{over}
use Rattle.iosa.specs.Checks.{narrowed}
use Rattle.layout.specs.Image.{row_in}
use Rattle.active.specs.Narrowing.{Fell}
use Rattle.active.proofs.narrow_state.Given as goal

abbrev pub invariant-loop-k : goal.invariant-loop-k
invariant-loop-k l = (l.lo ≤ l.k) × (over (λ r B. narrowed B (row_in l.t l.s r)) l.k l.hi l.act ≡ over (λ r B. narrowed B (row_in l.t l.s r)) l.lo l.hi l.initial.act) × Fell l.less l.initial.act l.act

abbrev pub decreases-loop-k : goal.decreases-loop-k
decreases-loop-k l = l.hi - l.k
