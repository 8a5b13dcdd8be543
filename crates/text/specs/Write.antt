-- What the call `write` answers on every input, and what it leaves in the buffer ("Writing needs 20 and 24 only", 01, "Refusal numbers").
use Rattle.std.specs.Prelude.{◌≡◌, true, false, List, [], ◌∷◌, ◌++◌, ℕ, length, drop, ltb}
use Rattle.std.proofs.Math.Option.{some}
use Rattle.answer.specs.Told.{Told, tell, Answer, answered, refused, says_written}
use Rattle.answer.specs.Told.{Written}
use Rattle.model.specs.Model.{Model}
use Rattle.model.specs.Text.{text_of}
use Rattle.layout.specs.Image.{model_of}
use Rattle.table.specs.OnTable.{on_table}

-- 24 "text buffer shorter than the text", place "bytes needed"
abbrev pub too_short : ℕ → Told
too_short needed = tell 24 (needed ∷ [])

-- a model written into a buffer of so many bytes: 24, or the text's length
unfoldable pub write_of : ℕ → Model → Answer ℕ
write_of room m = elim (ltb room (length (text_of m))) [ true ↦ refused (too_short (length (text_of m))) | false ↦ answered (length (text_of m)) ]

-- a table written: 20, then what writing its model answers
abbrev pub write_on : List ℕ → List ℕ → Answer ℕ
write_on t old = on_table t (write_of (length old))

-- the text at the front of the buffer, the rest as it was; "A refusal .. changes no lent byte"
abbrev pub text_after : Answer ℕ → List ℕ → List ℕ → List ℕ
text_after (answered n) t old = text_of (model_of t) ++ drop n old
text_after (refused f) t old = old

pub record WriteCall (t old new : List ℕ) (r : Written) : Type 0 where
  pub answer : says_written r ≡ some (write_on t old)
  pub buffer : new ≡ text_after (write_on t old) t old
