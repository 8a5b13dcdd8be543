-- Whether the rows of a table are those of an image (docs/TABLE.md): a test for each sentence about them.
use Rattle.std.specs.Prelude.{Bool, List, ℕ, suc, ◌+◌, ◌*◌, ◌-◌, ltb}
use Rattle.laws.specs.Sets.{has, within}
use Rattle.laws.specs.Fold.{all}
use Rattle.laws.specs.Tests.{both}
use Rattle.model.specs.Model.{acts, guard_set}
use Rattle.model.specs.WellFormed.{before}
use Rattle.layout.specs.Layout.{block_words, row_words, rows_at, image_words, count_of, block_word, first_of, action_at, guard_at, resets_at, target_at}
use Rattle.layout.specs.Image.{row_in, comp_of}
use Rattle.blocks.specs.Blocks.{zero_words, end_before}

-- a row names an action and clocks that its component has, and goes to one of its states
unfoldable pub row_right : List ℕ → ℕ → ℕ → ℕ → ℕ → Bool
row_right t actions clocks states r =
    both (has actions (action_at t r)) (both (within (guard_set (guard_at t r)) clocks) (both (within (resets_at t r) clocks) (ltb (target_at t r) states)))

-- row r and the next, where both leave s: "strictly ascending"
unfoldable pub climbs : List ℕ → ℕ → ℕ → Bool
climbs t s r = before (row_in t s r) (row_in t s (suc r))

-- the rows that leave state s of component i: each but the last stands before the next
unfoldable pub state_climbs : List ℕ → ℕ → ℕ → Bool
state_climbs t i s = all (climbs t s) (first_of t i s) (first_of t i (suc s) - 1)

-- the rows of component i
unfoldable pub comp_rows_right : List ℕ → ℕ → Bool
comp_rows_right t i =
    both (all (row_right t (acts (comp_of t i)) (block_word t i 6) (block_word t i 0)) (first_of t i 0) (first_of t i (block_word t i 0)))
    (all (state_climbs t i) 0 (block_word t i 0))

-- the rows of each component
unfoldable pub rows_right : List ℕ → Bool
rows_right t = all (comp_rows_right t) 0 (count_of t)

-- "blocks of components that the model does not have are zero throughout"; "Rows from the last component's first[states] on are zero"
unfoldable pub rest_zero : List ℕ → Bool
rest_zero t = both (zero_words t (1 + block_words * count_of t) rows_at) (zero_words t (rows_at + row_words * end_before t (count_of t)) image_words)
