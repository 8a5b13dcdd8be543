-- A check of a table: 20 where it is not recognised, and else what the check says of its model.
use mathlib.Core.Path.{◌≡◌, refl, sym, ◌∙◌, ap}
use mathlib.Core.Bool.{Bool, true, false, not}
use mathlib.Core.Option.{Option, none, some}
use mathlib.Core.List.{List}
use Prim.Native.Nat.{ℕ}
use borrow.Author.Tests.{not-true, not-false}
use Rattle.answer.specs.Told.{Told, told, Answer, answered, refused, says_checked}
use Rattle.answer.specs.Told.{Checked}
use Rattle.std.specs.Prelude.{Ok, Err, IsErrAnd}
use Rattle.answer.specs.declared.Refusal.{Refusal}
use Rattle.laws.proofs.Exits.{handed-on}
use native.Mathlib.Omega.{arith}
use Rattle.answer.specs.declared.Place.TheVariants.{Whole}
use Rattle.model.specs.Model.{Model}
use Rattle.iosa.specs.Step.{unless}
use Rattle.layout.specs.Image.{Image, model_of}
use Rattle.parts.specs.Faults.{Says}
use Rattle.table.specs.IsImage.{is_image}
use Rattle.table.specs.OnTable.{check_on}
use Rattle.table.proofs.OnTableLaws.{on-image, on-no-image}
use Rattle.table.proofs.ImageExactly.{image-exactly}
use Rattle.table.proofs.CheckedLaws.{fine-passes, refused-tells}
use Rattle.admit.specs.Admit.{Recognised}

no-refusal : {P : Type 0} {f : Told} → ◌≡◌ {A = Answer (Unit {0})} (answered tt) (refused f) → P
no-refusal e = let z : ◌≡◌ {A = ℕ} 0 1 = cc in absurd (omega arith)

-- w is what the recogniser answered
module _ (t : List ℕ) (w : Bool) (e : w ≡ is_image t) where
  module _ (check : Model → Option Told) (r : Checked) where
    pub says-20 : not w ≡ true → r ≡ Err (record { number = 20; place = Whole }) → says_checked r ≡ some (check_on t check)
    unfolding says_checked told
    says-20 f q = ap says_checked q ∙ ap some (sym (on-no-image t (λ m. unless (check m) tt) (sym e ∙ not-true w f)))

    pub says-of-model : not w ≡ false → Says r (check (model_of t)) → says_checked r ≡ some (check_on t check)
    says-of-model f s = s ∙ ap some (sym (on-image t (λ m. unless (check m) tt) (sym e ∙ not-false w f)))

-- ---- a call that goes on after 20 was asked
module _ (t : List ℕ) where
  pub recognised-image : Recognised t (Ok tt) → Image t
  recognised-image e = (image-exactly t).0 (fine-passes t (λ m. none) e).0

  module _ (check : Model → Option Told) where
    -- 20 stands whatever comes after
    stands : (q : Refusal) → Recognised t (Err q) → says_checked (Err q) ≡ some (check_on t check)
    stands q e = let z = refused-tells t (λ m. none) q e in go (is_image t) refl
      where
        go : (b : Bool) → is_image t ≡ b → says_checked (Err q) ≡ some (check_on t check)
        go true h = let z = refused-tells t (λ m. none) q e in no-refusal (sym (on-image t (λ m. unless none tt) h) ∙ z.2)
        go false h = e ∙ ap some (on-no-image t (λ m. unless none tt) h ∙ sym (on-no-image t (λ m. unless (check m) tt) h))

    pub exit-20 : (q : Refusal) (r : Checked) → IsErrAnd r (λ x. x ≡ q) → Recognised t (Err q) → says_checked r ≡ some (check_on t check)
    exit-20 q r h e = rw (handed-on r h) (stands q e)

    pub goes-on : (r : Checked) → Recognised t (Ok tt) → Says r (check (model_of t)) → says_checked r ≡ some (check_on t check)
    goes-on r e s = s ∙ ap some (sym (on-image t (λ m. unless (check m) tt) (fine-passes t (λ m. none) e).0))
