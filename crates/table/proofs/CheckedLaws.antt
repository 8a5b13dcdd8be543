-- What the answer of a check on a table tells a call that goes on from it: (Ok tt), and the table is an image of a model that passes;
-- Err, and the call refuses alike.
use mathlib.Core.Path.{◌≡◌, refl, sym, ◌∙◌, ap}
use mathlib.Core.Bool.{Bool, true, false}
use mathlib.Core.Option.{Option, none, some, some_inj}
use mathlib.Core.List.{List}
use Prim.Native.Nat.{ℕ}
use native.Mathlib.Omega.{arith}
use Rattle.answer.specs.Told.{Told, told, Answer, answered, refused, says_checked}
use Rattle.answer.specs.declared.Refusal.{Refusal}
use Rattle.std.specs.Prelude.{Ok, Err}
use Rattle.model.specs.Model.{Model}
use Rattle.iosa.specs.Step.{unless}
use Rattle.layout.specs.Image.{model_of}
use Rattle.answer.proofs.SaysFixes.{tells}
use Rattle.table.specs.IsImage.{is_image}
use Rattle.table.specs.OnTable.{on_table, check_on}
use Rattle.table.proofs.OnTableLaws.{on-image, on-no-image}

abbrev done : Unit {0}
done = tt

never_both {ℓ} : {P : Type ℓ} {f : Told} → ◌≡◌ {A = Answer (Unit {0})} (answered done) (refused f) → P
never_both e = let z : ◌≡◌ {A = ℕ} 0 1 = cc in absurd (omega arith)

module _ (t : List ℕ) (check : Model → Option Told) where
  passes : (o : Option Told) → unless o done ≡ answered done → o ≡ none
  passes none e = refl
  passes (some f) e = never_both (sym e)

  pub fine-passes : says_checked (Ok tt) ≡ some (check_on t check) → (is_image t ≡ true) × (check (model_of t) ≡ none)
  unfolding says_checked
  fine-passes e = go (is_image t) refl
    where
      go : (b : Bool) → is_image t ≡ b → (is_image t ≡ true) × (check (model_of t) ≡ none)
      go true h = (h, passes (check (model_of t)) (sym (on-image t (λ m. unless (check m) done) h) ∙ sym (some_inj.0 e)))
      go false h = never_both (some_inj.0 e ∙ on-no-image t (λ m. unless (check m) done) h)

  -- a call that refuses whatever the check refuses
  abbrev pub Follows : {A : Type 0} → (Model → Answer A) → Type 0
  Follows g = (m : Model) (f : Told) → check m ≡ some f → g m ≡ refused f

  same-told : {f g : Told} → ◌≡◌ {A = Answer (Unit {0})} (refused f) (refused g) → f ≡ g
  same-told e = cc

  stands : (o : Option Told) (f : Told) → unless o done ≡ refused f → o ≡ some f
  stands none f e = never_both e
  stands (some g) f e = ap some (same-told e)

  pub refused-tells : (q : Refusal) → says_checked (Err q) ≡ some (check_on t check) → (f : Told) × (told q ≡ some f) × (check_on t check ≡ refused f)
  unfolding says_checked
  refused-tells q e = tells q (check_on t check) e

  pub call-refuses : {A : Type 0} (g : Model → Answer A) → Follows g → (f : Told) → check_on t check ≡ refused f → on_table t g ≡ refused f
  call-refuses g fol f x = go (is_image t) refl
    where
      go : (b : Bool) → is_image t ≡ b → on_table t g ≡ refused f
      go true h = on-image t g h ∙ fol (model_of t) f (stands (check (model_of t)) f (sym (on-image t (λ m. unless (check m) done) h) ∙ x))
      go false h = on-no-image t g h ∙ ap refused (same-told (sym (on-no-image t (λ m. unless (check m) done) h) ∙ x))
