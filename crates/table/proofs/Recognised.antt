-- The contract of `recognise` fixes its answer, and says exactly that the table holds a model.
use mathlib.Core.Path.{◌≡◌, refl, sym, ◌∙◌}
use mathlib.Core.Logic.{◌↔◌}
use mathlib.Core.Bool.{Bool, true, false}
use mathlib.Core.List.{List}
use Prim.Native.Nat.{ℕ}
use Rattle.layout.specs.Image.{model_of}
use Rattle.table.specs.IsImage.{is_image}
use Rattle.table.specs.RecogniseExactly.{RecogniseExactly}
use Rattle.table.proofs.ImageExactly.{image-exactly}
use Rattle.table.proofs.OnImageExactly.{holds-image, image_holds}

pub recognise-determined : (t : List ℕ) (b c : Bool) → b ≡ is_image t → c ≡ is_image t → b ≡ c
recognise-determined t b c e f = e ∙ sym f

pub recognise-answers-exactly : (t : List ℕ) (b : Bool) → (b ≡ is_image t) ↔ RecogniseExactly t b
recognise-answers-exactly t b = (there, λ r. back b (is_image t) refl r)
  where
    there : b ≡ is_image t → RecogniseExactly t b
    there e = (λ h. (model_of t, image_holds t ((image-exactly t).0 (sym e ∙ h))), λ m. e ∙ (image-exactly t).1 (holds-image m.1))

    back : (b c : Bool) → is_image t ≡ c → RecogniseExactly t b → b ≡ c
    back true true e r = refl
    back false false e r = refl
    back true false e r = sym ((image-exactly t).1 (holds-image (r.0 refl).1)) ∙ e
    back false true e r = r.1 (model_of t, image_holds t ((image-exactly t).0 e))
