-- "a table of 64 rows of 64 yes or no marks, closed under going on" (02, 8/13).
use Rattle.std.specs.Prelude.{◌≡◌, ◌↔◌, Bool, true, false, ◌||◌, ◌&&◌, List, [], ℕ, ◌<◌, length, get_or}
use Rattle.laws.specs.Sets.{has, ◌∈◌}
use Rattle.marks.specs.Ways.{Way}

-- as many rows as there are actions, and as many marks in each
abbrev pub rows_of_marks : ℕ
rows_of_marks = 64

-- the mark at row a, column b
abbrev pub mark_at : List (List Bool) → ℕ → ℕ → Bool
mark_at m a b = get_or (get_or m a []) b false

-- the row of a set: a mark for each member
pub record RowOf (s : ℕ) (r : List Bool) : Type 0 where
  pub marks : (b : ℕ) → b < rows_of_marks → get_or r b false ≡ has s b

-- row a has the marks of another where it has one at k, and the other rows are as they were
pub record Joined (a k : ℕ) (via : List Bool) (m n : List (List Bool)) : Type 0 where
  pub rows : length n ≡ rows_of_marks
  pub here : (b : ℕ) → b < rows_of_marks → mark_at n a b ≡ (mark_at m a b || (mark_at m a k && get_or via b false))
  pub others : (i : ℕ) → (i ≡ a → ⊥) → get_or n i [] ≡ get_or m i []

-- no row but those of w has a mark
pub record Idle (w : ℕ) (m : List (List Bool)) : Type 0 where
  pub none : (a b : ℕ) → a < rows_of_marks → b < rows_of_marks → has w a ≡ false → mark_at m a b ≡ false

-- every way by k becomes a mark
pub record Passed (k : ℕ) (m n : List (List Bool)) : Type 0 where
  pub rows : length n ≡ rows_of_marks
  pub marks : (a b : ℕ) → a < rows_of_marks → b < rows_of_marks → mark_at n a b ≡ (mark_at m a b || (mark_at m a k && mark_at m k b))

-- "closed under going on": a mark for each way
pub record Closed (m n : List (List Bool)) : Type 0 where
  pub rows : length n ≡ rows_of_marks
  pub ways : (a b : ℕ) → a < rows_of_marks → b < rows_of_marks → (mark_at n a b ≡ true) ↔ Way (λ x y. mark_at m x y ≡ true) rows_of_marks a b

-- the same of 64 sets
pub record ClosedSets (s r : List ℕ) : Type 0 where
  pub places : length r ≡ rows_of_marks
  pub ways : (a b : ℕ) → a < rows_of_marks → b < rows_of_marks → (b ∈ get_or r a 0) ↔ Way (λ x y. y ∈ get_or s x 0) rows_of_marks a b
