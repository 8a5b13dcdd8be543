-- The image of the components so far, the last one first, word by word: how the table stands before a line of the text.
use Rattle.std.specs.Prelude.{◌≡◌, List, [], ◌∷◌, ℕ, ◌+◌, ◌≤◌, ◌<◌, length, get_or}
use Rattle.answer.specs.Limits.{max_components, max_rows}
use Rattle.model.specs.Model.{Row, Comp, no_row, row_count}
use Rattle.layout.specs.Layout.{block_words, row_words, image_words, count_of, block_word}
use Rattle.layout.specs.Image.{block_of}
use Rattle.layout.specs.Words.{words_of, row_word}

-- block i is that of c, where n rows stand before c's
pub record BlockIs (t : List ℕ) (i n : ℕ) (c : Comp) : Type 0 where
  pub words : (k : ℕ) → k < block_words → block_word t i k ≡ get_or (block_of n c) k 0

-- the rows from row n of the system on
pub record RowsAre (t : List ℕ) (n : ℕ) (rs : List Row) : Type 0 where
  pub words : (k v : ℕ) → k < length rs → v < row_words → row_word t (n + k) v ≡ get_or (words_of (get_or rs k no_row)) v 0

abbrev pub Parts : List ℕ → List Comp → Type 0
Parts t [] = Unit {0}
Parts t (c ∷ cs) = BlockIs t (length cs) (row_count cs) c × RowsAre t (row_count cs) c.rows × Parts t cs

pub record Laid (t : List ℕ) (m : List Comp) : Type 0 where
  pub long : image_words ≤ length t
  pub count : count_of t ≡ length m
  pub parts : Parts t m
  pub no_block : (i k : ℕ) → length m ≤ i → i < max_components → k < block_words → block_word t i k ≡ 0
  pub no-row : (r v : ℕ) → row_count m ≤ r → r < max_rows → v < row_words → row_word t r v ≡ 0
