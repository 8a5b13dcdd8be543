-- What each turn of the loop of `linking::spread` keeps.
use mathlib.Core.Path.{◌≡◌}
use mathlib.Core.Bool.{cond}
use mathlib.Core.List.{List}
use Prim.Native.Nat.{ℕ, ◌-◌, ◌≤◌}
use lib.ListN.{get_or}
use Rattle.laws.specs.Sets.{has, ◌∪◌}
use Rattle.laws.specs.Fold.{over}
use Rattle.answer.specs.Limits.{max_actions}
use Rattle.linking.proofs.spread.Given as goal

abbrev pub joins : List ℕ → ℕ → ℕ → ℕ → ℕ
joins L x = λ d y. y ∪ cond (has x d) (get_or L d 0) 0

abbrev pub invariant-loop-d : goal.invariant-loop-d
invariant-loop-d l = (l.d ≤ max_actions) × (over (joins l.lead l.x) l.d max_actions l.all ≡ over (joins l.lead l.x) 0 max_actions 0)

abbrev pub decreases-loop-d : goal.decreases-loop-d
decreases-loop-d l = max_actions - l.d
