-- Texts of the second form (02, 7/13), said without reading them: a good sheet, a model within the limits, and the text that they have.
use Rattle.std.specs.Prelude.{◌≡◌, true, List, [], ◌∷◌, ℕ, ◌≤◌, ◌<◌, length}
use Rattle.std.proofs.Math.Option.{some}
use Rattle.laws.specs.Sets.{◌∈◌}
use Rattle.answer.specs.Limits.{max_components, max_rows, max_actions, max_bytes}
use Rattle.model.specs.Model.{Model, row_count, comp_at}
use Rattle.model.specs.WellFormed.{WellComp}
use Rattle.named.specs.NamedText.{Name, good_name, Sheet, name_of, entries_of, declared_in, text_named}
use Rattle.named.specs.ReadNamed.{above}

-- "number, ascending, and a name of 1 to 16 lower-case letters or digits that starts with a letter, all different"
pub data Names : Sheet → Type 0 where
  no_name : Names []
  name : {sheet : Sheet} (n : ℕ) (w : Name) → Names sheet → n < max_actions → above sheet n ≡ true → good_name w ≡ true
      → ((a : ℕ) → name_of sheet a ≡ some w → ⊥)
      → Names (record { number = n; name = w } ∷ sheet)

-- "a `name` line per action declared anywhere"
pub record GoodSheet (sheet : Sheet) (m : Model) : Type 0 where
  pub names : Names sheet
  pub each : (a : ℕ) → a ∈ declared_in (entries_of m) → (w : Name) × (name_of sheet a ≡ some w)
  pub only : (a : ℕ) (w : Name) → name_of sheet a ≡ some w → a ∈ declared_in (entries_of m)

-- "Limits of 01 hold for each form's own text": a model as 01 has it, but for the length of its old text
pub record Fine (m : Model) : Type 0 where
  pub some : 1 ≤ length m
  pub components : length m ≤ max_components
  pub each : (i : ℕ) → i < length m → WellComp (comp_at m i)
  pub rows : row_count m ≤ max_rows

-- the text t is that of the sheet and the model
pub record TextOf (t : List ℕ) (sheet : Sheet) (m : Model) : Type 0 where
  pub good : GoodSheet sheet m
  pub fine : Fine m
  pub bytes : text_named sheet m ≡ t
  pub short : length t ≤ max_bytes
