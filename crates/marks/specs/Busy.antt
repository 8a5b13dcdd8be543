-- The numbers that lead elsewhere, and the rows and sets of these alone.
use Rattle.std.specs.Prelude.{◌≡◌, Bool, true, false, List, [], ℕ, ◌<◌, length, get_or}
use Rattle.laws.specs.Sets.{has, ◌∈◌}
use Rattle.marks.specs.Marks.{rows_of_marks, RowOf, Idle}

-- a number that is not in w leads to itself at most
pub record Busy (s : List ℕ) (w : ℕ) : Type 0 where
  pub itself : (k : ℕ) → k < rows_of_marks → has w k ≡ false → (b : ℕ) → b ∈ get_or s k 0 → b ≡ k

-- the rows of w are those of their sets, and the others have no mark
pub record RowsOf (w : ℕ) (s : List ℕ) (m : List (List Bool)) : Type 0 where
  pub rows : (a : ℕ) → a < rows_of_marks → a ∈ w → RowOf (get_or s a 0) (get_or m a [])
  pub idle : Idle w m

-- the sets of w are those of their rows, and the others are as they were
pub record SetsOf (w : ℕ) (m : List (List Bool)) (s r : List ℕ) : Type 0 where
  pub places : length r ≡ rows_of_marks
  pub sets : (a : ℕ) → a < rows_of_marks → a ∈ w → RowOf (get_or r a 0) (get_or m a [])
  pub others : (a : ℕ) → has w a ≡ false → get_or r a 0 ≡ get_or s a 0
