-- What each turn of the loop of `marks::row_of` keeps.
use Prim.Native.Nat.{ℕ, ◌-◌, ◌<◌, ◌≤◌}
use mathlib.Core.Path.{◌≡◌}
use mathlib.Core.Bool.{false}
use lib.ListN.{length, get_or}
use Rattle.laws.specs.Sets.{has}
use Rattle.marks.specs.Marks.{rows_of_marks}
use Rattle.marks.proofs.row_of.Given as goal

abbrev pub invariant-loop-j : goal.invariant-loop-j
invariant-loop-j l = (length l.next ≡ rows_of_marks) × (l.j ≤ rows_of_marks) × ((i : ℕ) → i < l.j → get_or l.next i false ≡ has l.s i)

abbrev pub decreases-loop-j : goal.decreases-loop-j
decreases-loop-j l = rows_of_marks - l.j
