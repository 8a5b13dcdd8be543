-- What `timed_step` answers, said of the product and its clocks, and what the lent values are then.
use Rattle.std.specs.Prelude.{List, ℕ, ℤ, Result}
use Rattle.answer.specs.State.{parts_of}
use Rattle.answer.specs.declared.State.{State}
use Rattle.answer.specs.declared.Timed.{Timed}
use Rattle.answer.specs.declared.Refusal.{Refusal}
use Rattle.iosa.specs.InOrder.{Leaves}
use Rattle.answering.specs.Answers.{TimedStepAnswer}
use Rattle.layout.specs.OnImage.{OnImage}
use Rattle.firing.specs.Shots.{TimingAnswers}

abbrev pub TimedStepExactly : List ℕ → State → List ℤ → Result Timed Refusal → List ℤ → Type 0
TimedStepExactly t x was r vs = Leaves (OnImage t (λ c cs. TimedStepAnswer c cs (parts_of x) was)) (λ a. TimingAnswers a x was r vs)
