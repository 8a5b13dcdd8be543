-- Whether the blocks of a table are those of an image (docs/TABLE.md): a test for each sentence about them.
use Rattle.std.specs.Prelude.{Bool, List, ℕ, zero, suc, ◌+◌, ◌*◌, ◌≤◌, length, get_or, eqb, ltb, leb}
use Rattle.laws.specs.Sets.{◌∪◌, ◌∩◌, within}
use Rattle.laws.specs.Fold.{all}
use Rattle.laws.specs.Tests.{both}
use Rattle.answer.specs.Limits.{max_components, max_states, max_rows}
use Rattle.layout.specs.Layout.{head_words, block_words, image_words, count_of, block_word, first_of}

-- "every place that a model does not use is zero": the words from lo on, below hi
unfoldable pub zero_words : List ℕ → ℕ → ℕ → Bool
zero_words t lo hi = all (λ k. eqb (get_or t k 0) 0) lo hi

-- "number of states, 1 to 128", and a start state below it
unfoldable pub sizes_right : List ℕ → ℕ → Bool
sizes_right t i = both (leb 1 (block_word t i 0)) (both (leb (block_word t i 0) max_states) (ltb (block_word t i 1) (block_word t i 0)))

-- no member in common
abbrev pub apart : ℕ → ℕ → Bool
apart s t = eqb (s ∩ t) 0

-- "The four sets of actions have no member in common"; "set of the clocks set at the start, within clocks"
unfoldable pub sets_right : List ℕ → ℕ → Bool
sets_right t i =
    both (apart (block_word t i 2) (block_word t i 3))
    (both (apart (block_word t i 2 ∪ block_word t i 3) (block_word t i 4))
    (both (apart (block_word t i 2 ∪ block_word t i 3 ∪ block_word t i 4) (block_word t i 5))
    (within (block_word t i 7) (block_word t i 6))))

unfoldable pub head_right : List ℕ → ℕ → Bool
head_right t i = both (sizes_right t i) (sets_right t i)

-- "Component 0 has first[0] = 0, and each later component's first[0] is the first[states] of the one before"
unfoldable pub end_before : List ℕ → ℕ → ℕ
end_before t zero = 0
end_before t (suc i) = first_of t i (block_word t i 0)

-- first[s] and first[s + 1] in order
unfoldable pub in_order : List ℕ → ℕ → ℕ → Bool
in_order t i s = leb (first_of t i s) (first_of t i (suc s))

-- the word of first[s]
abbrev pub first_place : ℕ → ℕ → ℕ
first_place i s = 1 + block_words * i + (head_words + s)

-- first[0] where the component before ends, first in order up to first[states], which is a row's number, and "first[s] for s above states is zero"
unfoldable pub firsts_right : List ℕ → ℕ → Bool
firsts_right t i =
    both (eqb (first_of t i 0) (end_before t i))
    (both (all (in_order t i) 0 (block_word t i 0))
    (both (leb (first_of t i (block_word t i 0)) max_rows)
    (zero_words t (first_place i (suc (block_word t i 0))) (first_place i (suc max_states)))))

-- "number of components, 1 to 32", a block for each
unfoldable pub blocks_right : List ℕ → Bool
blocks_right t = both (leb 1 (count_of t)) (both (leb (count_of t) max_components) (both (all (head_right t) 0 (count_of t)) (all (firsts_right t) 0 (count_of t))))

-- what the tests of rows ask of the blocks: ranges that keep every index in bounds, of the components that there are
pub record Bounded (t : List ℕ) : Type 0 where
  pub long : image_words ≤ length t
  pub count : count_of t ≤ max_components
  pub states : (i : ℕ) → suc i ≤ count_of t → block_word t i 0 ≤ max_states
  pub firsts : (i s : ℕ) → suc i ≤ count_of t → s ≤ max_states → first_of t i s ≤ max_rows
