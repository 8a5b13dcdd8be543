-- Words that stand as docs/TABLE.md says: ranges in their order, one after the other, and zeros wherever nothing is. What a table needs besides, to be an image, is a well-formed model.
use Rattle.std.specs.Prelude.{◌≡◌, List, ℕ, suc, ◌+◌, ◌*◌, ◌≤◌, ◌<◌, length, get_or}
use Rattle.answer.specs.Limits.{max_components, max_states, max_rows}
use Rattle.layout.specs.Layout.{block_words, row_words, rows_at, image_words, count_of, block_word, first_of}

pub record Laid (t : List ℕ) : Type 0 where
  pub long : image_words ≤ length t
  -- "Component 0 has first[0] = 0, and each later component's first[0] is the first[states] of the one before"
  pub start : first_of t 0 0 ≡ 0
  pub next : (i : ℕ) → suc i < count_of t → first_of t (suc i) 0 ≡ first_of t i (block_word t i 0)
  -- first[s] up to first[s + 1] is a range; "first[s] for s above states is zero"
  pub up : (i s : ℕ) → i < count_of t → s < block_word t i 0 → first_of t i s ≤ first_of t i (suc s)
  pub above : (i s : ℕ) → i < count_of t → block_word t i 0 < s → s ≤ max_states → first_of t i s ≡ 0
  -- "The blocks of components that the model does not have are zero throughout"
  pub blocks : (i k : ℕ) → count_of t ≤ i → i < max_components → k < block_words → block_word t i k ≡ 0
  -- "Rows from the last component's first[states] on are zero"
  pub rows : (i r v : ℕ) → suc i ≡ count_of t → first_of t i (block_word t i 0) ≤ r → r < max_rows → v < row_words → get_or t (rows_at + row_words * r + v) 0 ≡ 0
