-- From the answer of `accept` to that of the call.
use mathlib.Core.Path.{◌≡◌, ap}
use mathlib.Core.Option.{none, some}
use mathlib.Core.List.{List}
use Prim.Native.Nat.{ℕ}
use lib.IntN.{ℤ}
use Rattle.laws.specs.Search.{or_else}
use Rattle.answer.specs.Told.{Told, Answer, refused, says_checked}
use Rattle.answer.specs.State.{parts_of}
use Rattle.answer.specs.declared.State.{State}
use Rattle.answer.specs.declared.Timed.{Timed}
use Rattle.answer.specs.declared.Refusal.{Refusal}
use Rattle.std.specs.Prelude.{Result, Ok, Err}
use Rattle.model.specs.Model.{Model}
use Rattle.iosa.specs.Checks.{accept_of}
use Rattle.iosa.specs.Step.{state_fault}
use Rattle.timing.specs.Timed.{enabling_all, unstable_fault, values_fault, timed_from, timed_of}
use Rattle.iosa.specs.TimedExactly.{Timing}
use Rattle.layout.specs.Image.{Image, model_of}
use Rattle.table.specs.OnTable.{on_table, check_on}
use Rattle.table.proofs.OnTableLaws.{on-image}
use Rattle.table.proofs.CheckedLaws.{fine-passes, refused-tells, call-refuses}
use Rattle.table.proofs.ImageExactly.{image-exactly}
use Rattle.firing.specs.Shots.{TimingAnswers}
use Rattle.firing.proofs.Judging.{refuses}
use Rattle.timed.specs.TimedStep.{TimedStep}

-- what `accept` refuses the call refuses alike
follows : (m : Model) (s : List ℕ) (vs : List ℤ) (f : Told) → accept_of m ≡ some f → timed_of m s vs ≡ refused f
unfolding timed_of
follows m s vs f e =
    ap {B =
    Answer Timing} (λ o. elim (or_else o (or_else (state_fault m s) (or_else (unstable_fault m s) (values_fault m vs)))) as (λ _. Answer Timing)
    [ some t ↦ refused t | none ↦ timed_from m s vs (enabling_all m s) ]) e

module _ (t : List ℕ) (x : State) (was : List ℤ) where
  pub refused-before : (q : Refusal) → says_checked (Err q) ≡ some (check_on t accept_of) → TimedStep t x was (Err q) was
  refused-before q e =
      let p = refused-tells t accept_of q e in
      refuses (on_table t (λ m. timed_of m (parts_of x) was)) p.0 (call-refuses t accept_of (λ m. timed_of m (parts_of x) was)
      (λ m f k. follows m (parts_of x) was f k) p.0 p.2) q p.1 x was

  pub fine_before : says_checked (Ok tt) ≡ some (check_on t accept_of) → Image t × (accept_of (model_of t) ≡ none)
  fine_before e = let p = fine-passes t accept_of e in ((image-exactly t).0 p.0, p.1)

  pub goes_on : Image t → (r : Result Timed Refusal) (vs : List ℤ) → TimingAnswers (timed_of (model_of t) (parts_of x) was) x was r vs → TimedStep t x was r vs
  goes_on im r vs a = rw (on-image t (λ m. timed_of m (parts_of x) was) ((image-exactly t).1 im)) a
