-- The contract of `advance` says exactly what is said of the product.
use mathlib.Core.Logic.{◌↔◌}
use mathlib.Core.List.{List}
use Prim.Native.Nat.{ℕ}
use Rattle.std.specs.Prelude.{Result}
use Rattle.answer.specs.Told.{Answer}
use Rattle.answer.specs.State.{parts_of}
use Rattle.answer.specs.declared.Outcome.{Outcome}
use Rattle.answer.specs.declared.Refusal.{Refusal}
use Rattle.answer.specs.declared.State.{State}
use Rattle.model.specs.Model.{Comp}
use Rattle.iosa.specs.Step.{step_of}
use Rattle.iosa.specs.Stepped.{Stepping}
use Rattle.answering.specs.Answers.{StepAnswer}
use Rattle.answering.proofs.Answers.Models.{step-model-exactly}
use Rattle.table.proofs.OnImageExactly.{on-table-leaves}
use Rattle.panel.specs.Advance.{AdvanceCall}
use Rattle.panel.specs.AdvanceExactly.{AdvanceLeaves, AdvanceExactly}

pub advance-answers-exactly : (t : List ℕ) (x y : State) (r : Result Outcome Refusal) → AdvanceCall t x y r ↔ AdvanceExactly t x y r
advance-answers-exactly t x y r =
    let R : Comp → List Comp → Answer Stepping → Type 0 = λ c cs. StepAnswer c cs (parts_of x) in
    let e = on-table-leaves t (λ m. step_of m (parts_of x)) R (λ c cs w. step-model-exactly c cs w (parts_of x)) (AdvanceLeaves x y r) in
    (λ g. e.0 (record { outcome = g.outcome; state = g.state }), λ g. let l = e.1 g in record { outcome = l.outcome; state = l.state })
