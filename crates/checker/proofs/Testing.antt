-- What the program prints, by the ways in which reading and the two tests go.
use mathlib.Core.Path.{◌≡◌, ◌∙◌, ap}
use mathlib.Core.Option.{Option, none, some}
use mathlib.Core.List.{List}
use Prim.Native.Nat.{ℕ}
use Rattle.answer.specs.Told.{Told, told, answered, refused, says_checked}
use Rattle.answer.specs.declared.Refusal.{Refusal}
use Rattle.answer.specs.Told.{Checked}
use Rattle.std.specs.Prelude.{Ok, Err}
use Rattle.model.specs.Model.{Model}
use Rattle.model.specs.Reading.{read_of}
use Rattle.iosa.specs.Step.{unless}
use Rattle.iosa.specs.Checks.{confluent_of}
use Rattle.triggering.specs.Test.{orderly_of}
use Rattle.answering.specs.Report.{refused_line}
use Rattle.layout.specs.Image.{Image, model_of}
use Rattle.table.specs.OnTable.{check_on}
use Rattle.table.proofs.OnTableLaws.{on-image}
use Rattle.table.proofs.ImageExactly.{image-exactly}
use Rattle.parts.specs.Faults.{Says}
use Rattle.parts.proofs.Saying.{fine-none}
use Rattle.after.proofs.Order.{refused-fault}
use Rattle.checker.specs.Tested.{confluent_text, orderly_text, else_text, tested_text, checked_text}

pub read-refused : (input : List ℕ) (t : Told) → read_of input ≡ refused t → checked_text input ≡ refused_line t
unfolding checked_text
read-refused input t e = rw (e, checked_text)

pub read-fine : (input : List ℕ) (m : Model) → read_of input ≡ answered m → checked_text input ≡ tested_text m
unfolding checked_text
read-fine input m e = rw (e, checked_text)

-- what a check answers of an image
module _ (t : List ℕ) (im : Image t) (check : Model → Option Told) (r : Checked) (e : says_checked r ≡ some (check_on t check)) where
  says : Says r (check (model_of t))
  says = e ∙ ap some (on-image t (λ m. unless (check m) tt) ((image-exactly t).1 im))

  passes : r ≡ (Ok tt) → check (model_of t) ≡ none
  passes f = fine-none (check (model_of t)) (rw f at says)

  refuses : (q : Refusal) → r ≡ Err q → (u : Told) × (told q ≡ some u) × (check (model_of t) ≡ some u)
  refuses q f = refused-fault q (check (model_of t)) (rw f at says)

module _ (t : List ℕ) (im : Image t) (r : Checked) where
  pub is-orderly : says_checked r ≡ some (check_on t orderly_of) → r ≡ (Ok tt) → orderly_text ≡ else_text (model_of t)
  unfolding else_text
  is-orderly e f = let p = passes t im orderly_of r e f in rw (p, else_text)

  pub is-neither : says_checked r ≡ some (check_on t orderly_of) → (q : Refusal) → r ≡ Err q
      → (u : Told) × (told q ≡ some u) × (else_text (model_of t) ≡ refused_line u)
  unfolding else_text
  is-neither e q f = let p = refuses t im orderly_of r e q f in (p.0, p.1, rw (p.2, else_text))

  pub is-confluent : says_checked r ≡ some (check_on t confluent_of) → r ≡ (Ok tt) → confluent_text ≡ tested_text (model_of t)
  unfolding tested_text
  is-confluent e f = let p = passes t im confluent_of r e f in rw (p, tested_text)

  pub is-not : says_checked r ≡ some (check_on t confluent_of) → (q : Refusal) → r ≡ Err q → else_text (model_of t) ≡ tested_text (model_of t)
  unfolding tested_text
  is-not e q f = let p = refuses t im confluent_of r e q f in rw (p.2, tested_text)
