-- What `step`, `step_by`, `settle` and `settle_list` answer, said of the product of the model that the table holds: every refusal with its reason, in the paper's order, then the answer.
use Rattle.std.specs.Prelude.{◌≡◌, List, ℕ, length, Result}
use Rattle.answer.specs.Told.{Answer}
use Rattle.answer.specs.State.{parts_of}
use Rattle.answer.specs.declared.Refusal.{Refusal}
use Rattle.answer.specs.declared.State.{State}
use Rattle.answer.specs.declared.Stepped.{Stepped}
use Rattle.answer.specs.declared.Settled.{Settled}
use Rattle.iosa.specs.Orders.{Settling}
use Rattle.iosa.specs.InOrder.{Leaves}
use Rattle.answering.specs.Answers.{StepAnswer, StepByAnswer, SettleAnswer, SettleListAnswer}
use Rattle.layout.specs.OnImage.{OnImage}
use Rattle.settling.specs.Gives.{StepAnswers, SettleAnswers}
use Rattle.run.specs.Calls.{trace_after}

abbrev pub StepExactly : List ℕ → State → Result Stepped Refusal → Type 0
StepExactly t x r = Leaves (OnImage t (λ c cs. StepAnswer c cs (parts_of x))) (λ a. StepAnswers a x r)

abbrev pub StepByExactly : List ℕ → State → ℕ → Result Stepped Refusal → Type 0
StepByExactly t x b r = Leaves (OnImage t (λ c cs. StepByAnswer c cs (parts_of x) b)) (λ a. StepAnswers a x r)

-- the answer, and the actions at the front of the trace
pub record SettleLeaves (x : State) (old new : List ℕ) (r : Result Settled Refusal) (a : Answer (Settling (List ℕ))) : Type 0 where
  pub answer : SettleAnswers a x r
  pub trace : new ≡ trace_after a old

abbrev pub SettleExactly : List ℕ → State → ℕ → List ℕ → List ℕ → Result Settled Refusal → Type 0
SettleExactly t x budget old new r = Leaves (OnImage t (λ c cs. SettleAnswer c cs (parts_of x) budget (length old))) (SettleLeaves x old new r)

abbrev pub SettleListExactly : List ℕ → State → List ℕ → Result Settled Refusal → Type 0
SettleListExactly t x l r = Leaves (OnImage t (λ c cs. SettleListAnswer c cs (parts_of x) l)) (λ a. SettleAnswers a x r)
