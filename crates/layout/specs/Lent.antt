-- A lent table that a call fills with an image.
use Rattle.std.specs.Prelude.{List, [], ◌∷◌, ◌++◌, ℕ, ◌*◌, drop}
use Rattle.answer.specs.Told.{Told, tell, Answer, answered, refused}
use Rattle.model.specs.Model.{Model}
use Rattle.layout.specs.Layout.{image_words}
use Rattle.layout.specs.Image.{image_of}

-- a word of the table has 64 bits (docs/TABLE.md)
abbrev pub word_bytes : ℕ
word_bytes = 8

-- 24 "table buffer to be written shorter than an image", place "bytes needed"
abbrev pub table_too_short : Told
table_too_short = tell 24 (image_words * word_bytes ∷ [])

-- "A longer buffer is used at its front; the rest is neither read nor changed"; "A refusal .. changes no lent byte"
abbrev pub table_after : Answer Model → List ℕ → List ℕ
table_after (answered m) old = image_of m ++ drop image_words old
table_after (refused f) old = old
