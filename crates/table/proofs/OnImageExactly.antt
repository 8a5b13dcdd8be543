-- A call on a table answers exactly 20 or what it answers of the model that the table holds; and 24 asked of a table, in words or in bytes.
use mathlib.Core.Path.{◌≡◌, refl, sym, ◌∙◌, ap, subst}
use mathlib.Core.Logic.{◌↔◌}
use mathlib.Core.Bool.{Bool, true, false}
use mathlib.Core.List.{List, [], ◌∷◌}
use Prim.Native.Nat.{ℕ, ◌≤◌, ◌<◌}
use native.Mathlib.Omega.{arith}
use lib.ListN.{length}
use lib.Dec.{ltb}
use borrow.Author.Tests.{ltb-true, ltb-false, lt-ltb, le-ltb}
use Rattle.laws.specs.Search.{when}
use Rattle.answer.specs.Told.{Answer}
use Rattle.model.specs.Model.{Comp, Model}
use Rattle.model.specs.WellFormed.{WellFormed}
use Rattle.iosa.specs.InOrder.{Leaves, room}
use Rattle.answering.proofs.Answers.InOrder.{Decided, leaves-exactly, test-decided}
use Rattle.layout.specs.Layout.{image_words}
use Rattle.layout.specs.Image.{Image, model_of}
use Rattle.layout.specs.Lent.{table_too_short}
use Rattle.layout.specs.OnImage.{Holds, OnImage, is20, of-model, bytes_of, image_bytes}
use Rattle.layout.proofs.RowsOfRange.{image-front, well-formed}
use Rattle.layout.proofs.ModelOfImage.{model_is}
use Rattle.table.specs.IsImage.{is_image}
use Rattle.table.specs.OnTable.{on_table}
use Rattle.table.proofs.OnTableLaws.{on-image, on-no-image}
use Rattle.table.proofs.ImageExactly.{image-exactly, no-image-exactly}

-- a table that holds a model is its image, and back
pub holds-image : {t : List ℕ} {m : Model} → Holds t m → Image t
holds-image {m = m} h = record { model = m; well = h.well; front = h.front }

pub image_holds : (t : List ℕ) → Image t → Holds t (model_of t)
image_holds t im = record { well = well-formed t im; front = image-front t im }

pub held-model : (t : List ℕ) (m : Model) → Holds t m → model_of t ≡ m
held-model t m h = model_is m t h.well h.front

module _ {A : Type 0} (t : List ℕ) (f : Model → Answer A) (R : Comp → List Comp → Answer A → Type 0)
    (exactly : (c : Comp) (cs : List Comp) → WellFormed (c ∷ cs) → (a : Answer A) → (f (c ∷ cs) ≡ a) ↔ R c cs a) where
  there : (b : Bool) → is_image t ≡ b → (a : Answer A) → on_table t f ≡ a → OnImage t R a
  there true h a e = go (model_of t) (image_holds t ((image-exactly t).0 h)) (sym (on-image t f h) ∙ e)
    where
      go : (m : Model) → Holds t m → f m ≡ a → OnImage t R a
      go [] k q = absurd (omega (arith, k.well.some))
      go (c ∷ cs) k q = of-model k ((exactly c cs k.well a).0 q)
  there false h a e = subst (OnImage t R) (sym (on-no-image t f h) ∙ e) (is20 (λ m k. (no-image-exactly t).0 h (holds-image k)))

  back : {a : Answer A} → OnImage t R a → on_table t f ≡ a
  back (is20 none) = on-no-image t f ((no-image-exactly t).1 (λ im. none (model_of t) (image_holds t im)))
  back (of-model {c = c} {cs = cs} {a = a} h r) =
      on-image t f ((image-exactly t).1 (holds-image h)) ∙ ap f (held-model t (c ∷ cs) h) ∙ (exactly c cs h.well a).1 r

  pub on-table-exactly : (a : Answer A) → (on_table t f ≡ a) ↔ OnImage t R a
  on-table-exactly a = (there (is_image t) refl a, back)

  -- what a call leaves of what computes is what it leaves of the answer that is right
  pub on-table-leaves : (Left : Answer A → Type 0) → Left (on_table t f) ↔ Leaves (OnImage t R) Left
  on-table-leaves Left = leaves-exactly (on_table t f) (OnImage t R) Left on-table-exactly

-- 24: as many words as an image has, or as many bytes
pub table-room-decided : (t : List ℕ) → Decided (room image_bytes (bytes_of t)) (when (ltb (length t) image_words) table_too_short)
table-room-decided t = test-decided (image_bytes ≤ bytes_of t) (ltb (length t) image_words) table_too_short (bytes_of t < image_bytes) (
  λ e. omega (arith, ltb-false (length t) image_words e),
  λ h. le-ltb (length t) image_words (omega arith),
) (
  λ e. omega (arith, ltb-true (length t) image_words e),
  λ h. lt-ltb (length t) image_words (omega arith),
)
