-- What the call `to_names` answers and leaves (02, 7/13), in the paper's words; and what either conversion answers with a lent buffer (`Fitting`).
use Rattle.std.specs.Prelude.{◌≡◌, List, [], ◌∷◌, ℕ, ◌≤◌, ◌<◌, length}
use Rattle.answer.specs.Limits.{max_bytes}
use Rattle.answer.specs.Told.{Told, tell, Answer, answered, refused}
use Rattle.answer.specs.Told.{Written}
use Rattle.model.specs.Model.{Model}
use Rattle.model.specs.Text.{text_of}
use Rattle.model.specs.WellFormed.{WellFormed}
use Rattle.iosa.specs.InOrder.{Leaves}
use Rattle.iosa.specs.Lent.{Fills}
use Rattle.answering.specs.Answers.{ReadAnswer}
use Rattle.named.specs.NamedText.{text_named, defaults_of}

-- old to new: what reading the old text refuses, "1; lines in file order, within a line 2 to 7; 8"; or the text in the second form of the one model
-- whose text this is: "Old to new names each action `a` and its number"
pub data NamesAnswer (t : List ℕ) : Answer (List ℕ) → Type 0 where
  is-unread : {f : Told} → ReadAnswer t (refused f) → NamesAnswer t (refused f)
  is-named : {m : Model} → WellFormed m → text_of m ≡ t → NamesAnswer t (answered (text_named (defaults_of m) m))

-- with a lent buffer of so many bytes: what the text is refused for, 24 "bytes needed", "26 last, if the converted text passes
-- 32,768 bytes"; or the converted text
pub data Fitting (Converted : Answer (List ℕ) → Type 0) (bytes : ℕ) : Answer (List ℕ) → Type 0 where
  is-refused : {f : Told} → Converted (refused f) → Fitting Converted bytes (refused f)
  is24 : {u : List ℕ} → Converted (answered u) → bytes < length u → Fitting Converted bytes (refused (tell 24 (length u ∷ [])))
  is26 : {u : List ℕ} → Converted (answered u) → length u ≤ bytes → max_bytes < length u → Fitting Converted bytes (refused (tell 26 (0 ∷ [])))
  is-fine : {u : List ℕ} → Converted (answered u) → length u ≤ bytes → length u ≤ max_bytes → Fitting Converted bytes (answered u)

abbrev pub NamesExactly : List ℕ → List ℕ → List ℕ → Written → Type 0
NamesExactly t old new r = Leaves (Fitting (NamesAnswer t) (length old)) (Fills old new r)
