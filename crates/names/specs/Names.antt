-- The calls that convert a text (02, 7/13): what they answer and leave, computed; and what the answer of new to old is, line by line.
use Rattle.std.specs.Prelude.{◌≡◌, List, [], ◌∷◌, ◌++◌, ℕ, suc, ◌<◌, length}
use Rattle.std.proofs.Math.Option.{none, some}
use Rattle.answer.specs.Limits.{max_bytes}
use Rattle.answer.specs.Told.{tell, Answer, answered, refused}
use Rattle.model.specs.Model.{Model}
use Rattle.model.specs.Reading.{stops, got, exactly, stop_column}
use Rattle.named.specs.NamedText.{Sheet, form_line, Line, line, lines_text, entries_of}
use Rattle.named.specs.ReadNamed.{Progress₂, begun, fault_named, behind_line, taken, unused}
use Rattle.named.specs.Converted.{to_names, to_numbers, written_by, left_by}
use Rattle.namedtheory.specs.Named.{TextOf}

-- new to old: the answer and the buffer
abbrev pub numbers_on : List ℕ → List ℕ → Answer ℕ
numbers_on t old = written_by (length old) (to_numbers t)

abbrev pub numbers_left : List ℕ → List ℕ → List ℕ
numbers_left t old = left_by (numbers_on t old) (to_numbers t) old

-- old to new
abbrev pub names_on : List ℕ → List ℕ → Answer ℕ
names_on t old = written_by (length old) (to_names t)

abbrev pub names_left : List ℕ → List ℕ → List ℕ
names_left t old = left_by (names_on t old) (to_names t) old

-- "lines in file order": line n stands at these bytes, behind faultless lines that come to p; the `form` line is line 1
pub data Before (t : List ℕ) : ℕ → Progress₂ → List ℕ → Type 0 where
  form-first : {bs : List ℕ} → length t < suc max_bytes → t ≡ form_line ++ bs → Before t 2 begun bs
  line-next : {n : ℕ} {p : Progress₂} {bs cs : List ℕ} {l : Line} → Before t n p bs → line bs ≡ got l cs → fault_named p l ≡ none → Before t (suc n) (taken p l) cs

-- "1; lines in order, within a line 2 to 6, 43, 44, 7; 8; 44": or the old lines of the one sheet and model whose text this is
pub data NumbersAnswer (t : List ℕ) : Answer (List ℕ) → Type 0 where
  is1 : max_bytes < length t → NumbersAnswer t (refused (tell 1 (0 ∷ [])))
  is-empty : t ≡ [] → NumbersAnswer t (refused (tell 8 (0 ∷ [])))
  is-form : {cs : List ℕ} → length t < suc max_bytes → (t ≡ [] → ⊥) → exactly form_line t ≡ stops cs → NumbersAnswer t (refused (tell 2 (1 ∷ stop_column t cs ∷ [])))
  is-shape : {n : ℕ} {p : Progress₂} {bs cs : List ℕ} → Before t n p bs → (bs ≡ [] → ⊥) → line bs ≡ stops cs
      → NumbersAnswer t (refused (tell 2 (n ∷ stop_column bs cs ∷ [])))
  is-fault : {n f : ℕ} {p : Progress₂} {bs cs : List ℕ} {l : Line} → Before t n p bs → line bs ≡ got l cs → fault_named p l ≡ some f
      → NumbersAnswer t (refused (tell f (n ∷ behind_line p f l)))
  is8 : {n : ℕ} {p : Progress₂} → Before t n p [] → p.model.comps ≡ [] → NumbersAnswer t (refused (tell 8 (0 ∷ [])))
  is44 : {n k : ℕ} {p : Progress₂} → Before t n p [] → (p.model.comps ≡ [] → ⊥) → unused p.declared p.sheet ≡ some k
      → NumbersAnswer t (refused (tell 44 (k ∷ [])))
  is-text : {sheet : Sheet} {m : Model} → TextOf t sheet m → NumbersAnswer t (answered (lines_text (entries_of m)))
