-- A check that passed leaves the table ready for steps from a state in range.
use mathlib.Core.Path.{◌≡◌, sym, ◌∙◌, ap}
use mathlib.Core.Bool.{true}
use mathlib.Core.Option.{Option, none, some}
use mathlib.Core.List.{List}
use Prim.Native.Nat.{ℕ}
use Rattle.laws.proofs.SearchLaws.{or_else_none}
use Rattle.answer.specs.Told.{Told, told, says_checked, refused}
use Rattle.answer.specs.Told.{Checked}
use Rattle.std.specs.Prelude.{Ok, Err}
use Rattle.answer.specs.declared.Refusal.{Refusal}
use Rattle.answer.specs.declared.State.{State}
use Rattle.answer.specs.State.{parts_of}
use Rattle.iosa.specs.Checks.{accept_of, confluent_of}
use Rattle.iosa.specs.Step.{in_range}
use Rattle.iosa.specs.Settle.{begin_fault}
use Rattle.iosa.proofs.Acceptance.Accepted.{accepted-exactly}
use Rattle.iosa.proofs.Settling.Range.{range-exactly}
use Rattle.layout.specs.Image.{Image, model_of}
use Rattle.layout.proofs.RowsOfRange.{well-formed}
use Rattle.settling.specs.Gives.{Ready}
use Rattle.settling.proofs.Begun.{begun}
use Rattle.entry.specs.Entry.{entry_fault}
use Rattle.model.specs.Model.{Model}
use Rattle.table.specs.IsImage.{is_image}
use Rattle.table.specs.OnTable.{check_on}
use Rattle.table.proofs.CheckedLaws.{fine-passes, refused-tells}
use Rattle.table.proofs.ImageExactly.{image-exactly}

module _ (t : List ℕ) (im : is_image t ≡ true) where
  pub image-of : Image t
  image-of = (image-exactly t).0 im

  pub ready : accept_of (model_of t) ≡ none → (x : State) → in_range (model_of t) (parts_of x) ≡ true → Ready t x
  ready ok x h =
      let a = (accepted-exactly (model_of t) (well-formed t image-of)).0 ok in
      record { standing = record { image = image-of; within = (range-exactly (model_of t) (parts_of x)).0 h }; conforming = a.0; joinable = a.1 }

  pub ready-to-settle : (x : State) → entry_fault x (model_of t) ≡ none → Ready t x
  ready-to-settle x e =
      let p = or_else_none (confluent_of (model_of t)) (begin_fault (model_of t) (parts_of x)) e in
      begun t x image-of p.0 p.1

-- ---- the check's answer in hand
pub record Passed (t : List ℕ) (check : Model → Option Told) : Type 0 where
  pub image : is_image t ≡ true
  pub none : check (model_of t) ≡ Option.none

module _ (t : List ℕ) (check : Model → Option Told) (ch : Checked) (says : says_checked ch ≡ some (check_on t check)) where
  pub passed : ch ≡ (Ok tt) → Passed t check
  passed e = let p = fine-passes t check (ap says_checked (sym e) ∙ says) in record { image = p.0; none = p.1 }

  pub refused-by : (q : Refusal) → ch ≡ Err q → (f : Told) × (told q ≡ some f) × (check_on t check ≡ refused f)
  refused-by q e = refused-tells t check q (ap says_checked (sym e) ∙ says)
