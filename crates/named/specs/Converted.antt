-- The two conversions (02, 7/13): "Old to new names each action `a` and its number; new to old drops the names"; and what a call that writes such a text answers, and leaves.
use Rattle.std.specs.Prelude.{◌≡◌, List, [], ◌∷◌, ◌++◌, true, false, ℕ, length, drop, ltb}
use Rattle.std.proofs.Math.Option.{some}
use Rattle.answer.specs.Limits.{max_bytes}
use Rattle.answer.specs.Told.{tell, Answer, answered, refused, says_written}
use Rattle.answer.specs.Told.{Written}
use Rattle.model.specs.Reading.{read_of}
use Rattle.named.specs.NamedText.{lines_text, text_named, defaults_of}
use Rattle.named.specs.ReadNamed.{read_named}

-- the text to be written, or why there is none
unfoldable pub to_names : List ℕ → Answer (List ℕ)
to_names bs = elim (read_of bs) [ refused f ↦ refused f | answered m ↦ answered (text_named (defaults_of m) m) ]

unfoldable pub to_numbers : List ℕ → Answer (List ℕ)
to_numbers bs = elim (read_named bs) [ refused f ↦ refused f | answered r ↦ answered (lines_text r.lines) ]

-- 24 "bytes needed"; "26 last, if the converted text passes 32,768 bytes"
unfoldable pub fitted : ℕ → List ℕ → Answer ℕ
fitted room t = elim (ltb room (length t)) [
  | true ↦ refused (tell 24 (length t ∷ []))
  | false ↦ elim (ltb max_bytes (length t)) [ true ↦ refused (tell 26 (0 ∷ [])) | false ↦ answered (length t) ]
]

-- what the call answers, where its text is to go into a buffer of so many bytes
abbrev pub written_by : ℕ → Answer (List ℕ) → Answer ℕ
written_by room (refused f) = refused f
written_by room (answered t) = fitted room t

-- the text at the front of the buffer, the rest as it was; "A refusal .. changes no lent byte"
abbrev pub left_by : Answer ℕ → Answer (List ℕ) → List ℕ → List ℕ
left_by (refused f) o old = old
left_by (answered n) (refused f) old = old
left_by (answered n) (answered t) old = t ++ drop n old

pub record Converts (o : Answer (List ℕ)) (old new : List ℕ) (r : Written) : Type 0 where
  pub answer : says_written r ≡ some (written_by (length old) o)
  pub buffer : new ≡ left_by (written_by (length old) o) o old
