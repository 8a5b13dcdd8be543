-- "each operation recognises a buffer that is no image" (01, "The model text"): the recogniser answers yes exactly where the front is the image of a
-- well-formed model.
use mathlib.Core.Path.{◌≡◌, refl, sym, ◌∙◌, ap}
use mathlib.Core.Bool.{Bool, true, false, true≢false}
use mathlib.Core.Logic.{◌↔◌}
use mathlib.Core.List.{List}
use Prim.Native.Nat.{ℕ}
use lib.ListN.{take}
use Rattle.answer.specs.Told.{Answer}
use Rattle.model.specs.Model.{Model}
use Rattle.model.specs.WellFormed.{WellFormed}
use Rattle.layout.specs.Layout.{image_words}
use Rattle.layout.specs.Image.{image_of, model_of, Image}
use Rattle.layout.proofs.RowsOfRange.{image-front, well-formed}
use Rattle.layout.proofs.ModelOfImage.{model_is, image-by-front}
use Rattle.table.specs.IsImage.{is_image}
use Rattle.table.specs.OnTable.{on_table}
use Rattle.table.proofs.ImageOfTests.{recognised-image}
use Rattle.table.proofs.TestsOfImage.{image-recognised}
use Rattle.table.proofs.OnTableLaws.{on-image, on-no-image}

pub image-exactly : (t : List ℕ) → (is_image t ≡ true) ↔ Image t
image-exactly t = (recognised-image t, image-recognised t)

pub no-image-exactly : (t : List ℕ) → (is_image t ≡ false) ↔ (Image t → ⊥)
no-image-exactly t = (λ e im. true≢false (sym (image-recognised t im) ∙ e), λ f. go (is_image t) refl f)
  where
    go : (b : Bool) → is_image t ≡ b → (Image t → ⊥) → b ≡ false
    go true e f = absurd (f (recognised-image t e))
    go false e f = refl

-- "A longer buffer is used at its front; the rest is neither read nor changed"
module _ (t t' : List ℕ) (same : take image_words t ≡ take image_words t') where
  pub front-decides : is_image t ≡ is_image t'
  front-decides = go (is_image t) refl (is_image t') refl
    where
      go : (b : Bool) → is_image t ≡ b → (d : Bool) → is_image t' ≡ d → b ≡ d
      go true e true f = refl
      go true e false f = absurd ((no-image-exactly t').0 f (image-by-front t t' same (recognised-image t e)))
      go false e true f = absurd ((no-image-exactly t).0 e (image-by-front t' t (sym same) (recognised-image t' f)))
      go false e false f = refl

  pub front-answers : {A : Type 0} (f : Model → Answer A) → on_table t f ≡ on_table t' f
  front-answers f = go (is_image t) refl
    where
      go : (b : Bool) → is_image t ≡ b → on_table t f ≡ on_table t' f
      go true e =
          let im = recognised-image t e in
          on-image t f e ∙ ap f (sym (model_is (model_of t) t' (well-formed t im) (sym same ∙ image-front t im))) ∙ sym (on-image t' f (sym front-decides ∙ e))
      go false e = on-no-image t f e ∙ sym (on-no-image t' f (sym front-decides ∙ e))

-- a table whose front was written as the image of a well-formed model
pub written-recognised : (m : Model) (t : List ℕ) → WellFormed m → take image_words t ≡ image_of m → (is_image t ≡ true) × (model_of t ≡ m)
written-recognised m t w front = (image-recognised t (record { model = m; well = w; front = front }), model_is m t w front)
