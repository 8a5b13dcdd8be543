-- What each turn of the loop of `linking::sharing` keeps.
use mathlib.Core.Path.{◌≡◌}
use mathlib.Core.Bool.{not, cond}
use mathlib.Core.List.{List}
use Prim.Native.Nat.{ℕ, ◌-◌, ◌≤◌}
use lib.ListN.{get_or}
use lib.Dec.{eqb}
use Rattle.laws.specs.Sets.{◌∪◌, ◌∩◌, only}
use Rattle.laws.specs.Fold.{over}
use Rattle.answer.specs.Limits.{max_actions}
use Rattle.linking.proofs.sharing.Given as goal

abbrev pub joins : List ℕ → ℕ → ℕ → ℕ → ℕ
joins K a = λ d x. x ∪ cond (not (eqb (get_or K a 0 ∩ get_or K d 0) 0)) (only d) 0

abbrev pub invariant-loop-d : goal.invariant-loop-d
invariant-loop-d l = (l.d ≤ max_actions) × (over (joins l.table l.a) l.d max_actions l.all ≡ over (joins l.table l.a) 0 max_actions 0)

abbrev pub decreases-loop-d : goal.decreases-loop-d
decreases-loop-d l = max_actions - l.d
