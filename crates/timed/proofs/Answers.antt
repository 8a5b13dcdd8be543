-- The contract of `timed_step` says exactly what is said of the product and its clocks.
use mathlib.Core.Logic.{◌↔◌}
use mathlib.Core.List.{List}
use Prim.Native.Nat.{ℕ}
use lib.IntN.{ℤ}
use Rattle.answer.specs.Told.{Answer}
use Rattle.answer.specs.State.{parts_of}
use Rattle.answer.specs.declared.State.{State}
use Rattle.std.specs.Prelude.{Result}
use Rattle.answer.specs.declared.Timed.{Timed}
use Rattle.answer.specs.declared.Refusal.{Refusal}
use Rattle.model.specs.Model.{Comp}
use Rattle.timing.specs.Timed.{timed_of}
use Rattle.iosa.specs.TimedExactly.{Timing}
use Rattle.answering.specs.Answers.{TimedStepAnswer}
use Rattle.answering.proofs.Answers.Texts.{timed-step-model-exactly}
use Rattle.table.proofs.OnImageExactly.{on-table-leaves}
use Rattle.firing.specs.Shots.{TimingAnswers}
use Rattle.timed.specs.TimedStep.{TimedStep}
use Rattle.timed.specs.TimedStepExactly.{TimedStepExactly}

pub timed_step-answers-exactly : (t : List ℕ) (x : State) (was : List ℤ) (r : Result Timed Refusal) (vs : List ℤ)
    → TimedStep t x was r vs ↔ TimedStepExactly t x was r vs
timed_step-answers-exactly t x was r vs =
    let R : Comp → List Comp → Answer Timing → Type 0 = λ c cs. TimedStepAnswer c cs (parts_of x) was in
    on-table-leaves t (λ m. timed_of m (parts_of x) was) R (λ c cs w. timed-step-model-exactly c cs w (parts_of x) was) (λ a. TimingAnswers a x was r vs)
