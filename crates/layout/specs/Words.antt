-- The words of a model, each where it stands: what a table must hold to have the model's image as its front, for whoever writes one word by word.
use Rattle.std.specs.Prelude.{◌≡◌, List, [], ◌∷◌, ℕ, ◌+◌, ◌*◌, ◌≤◌, ◌<◌, length, get_or, take}
use Rattle.answer.specs.Limits.{max_components, max_rows}
use Rattle.model.specs.Model.{Row, Model, row_at, comp_at, row_count}
use Rattle.layout.specs.Layout.{block_words, row_words, rows_at, image_words, count_of, block_word}
use Rattle.layout.specs.Image.{block_of}

-- "A row is four words"
abbrev pub words_of : Row → List ℕ
words_of r = r.action ∷ r.guard ∷ r.resets ∷ r.target ∷ []

-- word v of row r of the system
abbrev pub row_word : List ℕ → ℕ → ℕ → ℕ
row_word t r v = get_or t (rows_at + row_words * r + v) 0

pub record Holds (m : Model) (t : List ℕ) : Type 0 where
  pub long : image_words ≤ length t
  pub count : count_of t ≡ length m
  pub block : (i k : ℕ) → i < length m → k < block_words → block_word t i k ≡ get_or (block_of (row_count (take i m)) (comp_at m i)) k 0
  pub row : (i k v : ℕ) → i < length m → k < length (comp_at m i).rows → v < row_words → row_word t (row_count (take i m) + k) v ≡ get_or (words_of (row_at (comp_at m i) k)) v 0
  -- "every place that a model does not use is zero"
  pub no_block : (i k : ℕ) → length m ≤ i → i < max_components → k < block_words → block_word t i k ≡ 0
  pub no-row : (r v : ℕ) → row_count m ≤ r → r < max_rows → v < row_words → row_word t r v ≡ 0
