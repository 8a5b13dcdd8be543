-- What the call `to_numbers` answers and leaves (02, 7/13), in the paper's words: each fault of a line is a relation of its own. It says the same as
-- `NumbersAnswer` (Names), whose lines are computed.
use Rattle.std.specs.Prelude.{◌≡◌, List, [], ◌∷◌, ◌++◌, ℕ, ◌≤◌, ◌<◌, length}
use Rattle.laws.specs.Lowest.{Lowest}
use Rattle.answer.specs.Limits.{max_bytes}
use Rattle.answer.specs.Told.{tell, Answer, answered, refused}
use Rattle.answer.specs.Told.{Written}
use Rattle.model.specs.Model.{Model}
use Rattle.iosa.specs.InOrder.{Leaves}
use Rattle.iosa.specs.Lent.{Fills}
use Rattle.named.specs.NamedText.{Sheet, form_line, lines_text, entries_of}
use Rattle.named.specs.ReadNamed.{Progress₂}
use Rattle.namedtheory.specs.Named.{TextOf}
use Rattle.namedfaults.specs.NamedFaults.{LineFault₂, Carries₂, Before, WrongForm, UnusedAt}
use Rattle.names.specs.NamesExactly.{Fitting}

-- new to old: "1; lines in order, within a line 2 to 6, 43, 44, 7; 8; 44": or the old lines of the one sheet and model whose text this is.
-- 2, 4 and 5 carry a column
pub data NumbersWords (t : List ℕ) : Answer (List ℕ) → Type 0 where
  is1 : max_bytes < length t → NumbersWords t (refused (tell 1 (0 ∷ [])))
  is-empty : t ≡ [] → NumbersWords t (refused (tell 8 (0 ∷ [])))
  is-form : {k : ℕ} → length t ≤ max_bytes → ¬ (t ≡ []) → ((bs : List ℕ) → ¬ (t ≡ form_line ++ bs)) → WrongForm t k
      → NumbersWords t (refused (tell 2 (1 ∷ k ∷ [])))
  is-fault : {n f : ℕ} {column : List ℕ} {p : Progress₂} {bs : List ℕ} → Before t n p bs → ¬ (bs ≡ []) → Lowest (LineFault₂ p bs) f → Carries₂ p bs f column
      → NumbersWords t (refused (tell f (n ∷ column)))
  is8 : {n : ℕ} {p : Progress₂} → Before t n p [] → p.model.comps ≡ [] → NumbersWords t (refused (tell 8 (0 ∷ [])))
  is44 : {n k : ℕ} {p : Progress₂} → Before t n p [] → ¬ (p.model.comps ≡ []) → Lowest (UnusedAt p.declared p.sheet) k
      → NumbersWords t (refused (tell 44 (k ∷ [])))
  is-text : {sheet : Sheet} {m : Model} → TextOf t sheet m → NumbersWords t (answered (lines_text (entries_of m)))

abbrev pub NumbersExactly : List ℕ → List ℕ → List ℕ → Written → Type 0
NumbersExactly t old new r = Leaves (Fitting (NumbersWords t) (length old)) (Fills old new r)
