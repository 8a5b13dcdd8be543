-- Whether the front of a table is an image (docs/TABLE.md), as a test.
use Rattle.std.specs.Prelude.{Bool, List, ℕ, ◌^◌, length, get_or, ltb, leb}
use Rattle.laws.specs.Fold.{all}
use Rattle.laws.specs.Tests.{both}
use Rattle.answer.specs.Limits.{max_bytes}
use Rattle.sets.specs.Members.{word_bits}
use Rattle.model.specs.Text.{text_of}
use Rattle.layout.specs.Layout.{image_words}
use Rattle.layout.specs.Image.{model_of}
use Rattle.blocks.specs.Blocks.{blocks_right}
use Rattle.table.specs.Rows.{rows_right, rest_zero}

-- "64-bit words": so of every lent buffer, though not of every list of numbers
unfoldable pub words_fit : List ℕ → Bool
words_fit t = all (λ k. ltb (get_or t k 0) (2 ^ word_bits)) 0 image_words

-- long enough, blocks and rows as they should be, the rest zero, and "a text of at most 32,768 bytes"
unfoldable pub is_image : List ℕ → Bool
is_image t = both (leb image_words (length t)) (both (words_fit t) (both (blocks_right t) (both (rows_right t) (both (rest_zero t) (leb (length (text_of (model_of t))) max_bytes)))))
