-- What each turn of the loop of `treetests::has_own` keeps.
use mathlib.Core.Path.{◌≡◌}
use mathlib.Core.Bool.{Bool}
use mathlib.Core.List.{List}
use Prim.Native.Nat.{ℕ, ◌-◌, ◌≤◌}
use lib.ListN.{get_or}
use Rattle.laws.specs.Sets.{has}
use Rattle.laws.specs.Search.{seek, when}
use Rattle.marks.specs.Marks.{rows_of_marks}
use Rattle.treetests.proofs.has_own.Given as goal

abbrev pub own : List ℕ → ℕ → Bool
own rows v = has (get_or rows v 0) v

abbrev pub invariant-loop-v : goal.invariant-loop-v
invariant-loop-v l = (l.v ≤ rows_of_marks) × (seek (λ k. when (own l.rows k) k) l.v rows_of_marks ≡ seek (λ k. when (own l.rows k) k) 0 rows_of_marks)

abbrev pub decreases-loop-v : goal.decreases-loop-v
decreases-loop-v l = rows_of_marks - l.v
