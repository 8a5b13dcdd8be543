-- What each turn of the loop of `marks::close` keeps.
use Prim.Native.Nat.{ℕ, ◌-◌, ◌<◌, ◌≤◌}
use mathlib.Core.Path.{◌≡◌}
use mathlib.Core.Logic.{◌↔◌}
use mathlib.Core.Bool.{true}
use lib.ListN.{length}
use Rattle.marks.specs.Ways.{Way}
use Rattle.marks.specs.Marks.{rows_of_marks, mark_at, Idle}
use Rattle.marks.proofs.close.Given as goal

abbrev pub invariant-loop-k : goal.invariant-loop-k
invariant-loop-k l = (length l.m ≡ rows_of_marks) × (l.k ≤ rows_of_marks)
    × ((a b : ℕ) → a < rows_of_marks → b < rows_of_marks → (mark_at l.m a b ≡ true) ↔ Way (λ x y. mark_at l.initial.m x y ≡ true) l.k a b) × Idle l.w l.m

abbrev pub decreases-loop-k : goal.decreases-loop-k
decreases-loop-k l = rows_of_marks - l.k
