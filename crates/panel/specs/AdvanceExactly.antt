-- What `advance` answers, said of the product, and what the lent state is then.
use Rattle.std.specs.Prelude.{◌≡◌, List, ℕ, Result}
use Rattle.std.proofs.Math.Option.{some}
use Rattle.answer.specs.Told.{Answer, says, step_said}
use Rattle.answer.specs.State.{parts_of}
use Rattle.answer.specs.declared.Outcome.{Outcome}
use Rattle.answer.specs.declared.Refusal.{Refusal}
use Rattle.answer.specs.declared.State.{State}
use Rattle.iosa.specs.Stepped.{Stepping}
use Rattle.iosa.specs.InOrder.{Leaves}
use Rattle.answering.specs.Answers.{StepAnswer}
use Rattle.layout.specs.OnImage.{OnImage}
use Rattle.panel.specs.Advance.{outcome_of, state_after}

-- x is the lent state before the call, and y after it
pub record AdvanceLeaves (x y : State) (r : Result Outcome Refusal) (a : Answer Stepping) : Type 0 where
  pub outcome : says step_said r ≡ some (outcome_of a)
  pub state : y ≡ state_after x a

abbrev pub AdvanceExactly : List ℕ → State → State → Result Outcome Refusal → Type 0
AdvanceExactly t x y r = Leaves (OnImage t (λ c cs. StepAnswer c cs (parts_of x))) (AdvanceLeaves x y r)
