-- A call on a table (01, "Refusal numbers": "Tables: 20; then .."), said of the model whose image the table is.
use Rattle.std.specs.Prelude.{◌≡◌, List, ◌∷◌, ℕ, ◌*◌, length, take}
use Rattle.std.proofs.Math.Option.{some}
use Rattle.answer.specs.Told.{Answer, refused, says_checked, done_of}
use Rattle.answer.specs.Told.{Checked}
use Rattle.model.specs.Model.{Comp, Model}
use Rattle.model.specs.WellFormed.{WellFormed}
use Rattle.layout.specs.Layout.{image_words}
use Rattle.layout.specs.Image.{image_of, no_image}
use Rattle.layout.specs.Lent.{word_bytes, table_after}

-- the front of the table is the image of the well-formed model m
pub record Holds (t : List ℕ) (m : Model) : Type 0 where
  pub well : WellFormed m
  pub front : take image_words t ≡ image_of m

-- 20 where the table holds no model, else what R answers of the model that it holds
pub data OnImage {A : Type 0} (t : List ℕ) (R : Comp → List Comp → Answer A → Type 0) : Answer A → Type 0 where
  is20 : ((m : Model) → Holds t m → ⊥) → OnImage t R (refused no_image)
  of-model : {c : Comp} {cs : List Comp} {a : Answer A} → Holds t (c ∷ cs) → R c cs a → OnImage t R a

-- what an answer says, and nothing else
abbrev pub Tells : Checked → Answer (Unit {0}) → Type 0
Tells r a = says_checked r ≡ some a

-- the model's image at the front of a lent table and later words as they were; a refusal changes none
pub record FillsTable (old new : List ℕ) (r : Checked) (a : Answer Model) : Type 0 where
  pub answer : says_checked r ≡ some (done_of a)
  pub table : new ≡ table_after a old

-- the bytes of a table, and those that an image needs
abbrev pub bytes_of : List ℕ → ℕ
bytes_of t = length t * word_bytes

abbrev pub image_bytes : ℕ
image_bytes = image_words * word_bytes
