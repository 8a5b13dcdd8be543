-- What each turn of the loop of `linking::learn_state` keeps.
use mathlib.Core.Path.{◌≡◌}
use mathlib.Core.List.{List}
use Prim.Native.Nat.{ℕ, ◌-◌, ◌≤◌}
use lib.ListN.{length}
use Rattle.laws.specs.Fold.{over}
use Rattle.answer.specs.Limits.{max_actions}
use Rattle.layout.specs.Image.{comp_of, row_in}
use Rattle.leads.specs.declared.Spot.{Spot}
use Rattle.leads.specs.declared.Kind.{Kind}
use Rattle.leads.specs.Learning.{learn_row}
use Rattle.linking.proofs.learn_state.Given as goal

abbrev pub rows : List ℕ → Spot → Kind → ℕ → List ℕ → List ℕ
rows t x k = λ r. learn_row k (comp_of t x.component) (row_in t x.state r)

abbrev pub invariant-loop-r : goal.invariant-loop-r
invariant-loop-r l = (l.lo ≤ l.r) × (length l.table ≡ max_actions) × (over (rows l.t l.at l.kind) l.r l.hi l.table ≡ over (rows l.t l.at l.kind) l.lo l.hi l.initial.table)

abbrev pub decreases-loop-r : goal.decreases-loop-r
decreases-loop-r l = l.hi - l.r
