-- The contracts of `step`, `step_by`, `settle` and `settle_list` say exactly what is said of the product.
use mathlib.Core.Logic.{◌↔◌}
use mathlib.Core.List.{List}
use Prim.Native.Nat.{ℕ}
use Rattle.std.specs.Prelude.{Result}
use lib.ListN.{length}
use Rattle.answer.specs.Told.{Answer}
use Rattle.answer.specs.State.{parts_of}
use Rattle.answer.specs.declared.Refusal.{Refusal}
use Rattle.answer.specs.declared.State.{State}
use Rattle.answer.specs.declared.Stepped.{Stepped}
use Rattle.answer.specs.declared.Settled.{Settled}
use Rattle.model.specs.Model.{Comp, Model}
use Rattle.iosa.specs.Step.{step_of, step_by_of}
use Rattle.iosa.specs.Stepped.{Stepping}
use Rattle.iosa.specs.Settle.{settle_of, settle_list_of}
use Rattle.iosa.specs.Orders.{Settling}
use Rattle.answering.specs.Answers.{StepAnswer, StepByAnswer, SettleAnswer, SettleListAnswer}
use Rattle.answering.proofs.Answers.Models.{step-model-exactly, step-by-model-exactly, settle-model-exactly, settle-list-model-exactly}
use Rattle.settling.specs.Gives.{StepAnswers, SettleAnswers}
use Rattle.table.proofs.OnImageExactly.{on-table-leaves}
use Rattle.run.specs.Calls.{StepCall, StepByCall, SettleCall, SettleListCall}
use Rattle.run.specs.RunExactly.{StepExactly, StepByExactly, SettleLeaves, SettleExactly, SettleListExactly}

module _ (t : List ℕ) (x : State) where
  pub step-answers-exactly : (r : Result Stepped Refusal) → StepCall t x r ↔ StepExactly t x r
  step-answers-exactly r =
      let R : Comp → List Comp → Answer Stepping → Type 0 = λ c cs. StepAnswer c cs (parts_of x) in
      let e = on-table-leaves t (λ m. step_of m (parts_of x)) R (λ c cs w. step-model-exactly c cs w (parts_of x)) (λ a. StepAnswers a x r) in
      (λ g. e.0 g.answer, λ g. record { answer = e.1 g })

  pub step-by-answers-exactly : (b : ℕ) (r : Result Stepped Refusal) → StepByCall t x b r ↔ StepByExactly t x b r
  step-by-answers-exactly b r =
      let R : Comp → List Comp → Answer Stepping → Type 0 = λ c cs. StepByAnswer c cs (parts_of x) b in
      let e = on-table-leaves t (λ m. step_by_of m (parts_of x) b) R (λ c cs w. step-by-model-exactly c cs w (parts_of x) b) (λ a. StepAnswers a x r) in
      (λ g. e.0 g.answer, λ g. record { answer = e.1 g })

  pub settle-answers-exactly : (budget : ℕ) (old new : List ℕ) (r : Result Settled Refusal)
      → SettleCall t x budget old new r ↔ SettleExactly t x budget old new r
  settle-answers-exactly budget old new r =
      let f : Model → Answer (Settling (List ℕ)) = λ m. settle_of m (parts_of x) budget (length old) in
      let R : Comp → List Comp → Answer (Settling (List ℕ)) → Type 0 = λ c cs. SettleAnswer c cs (parts_of x) budget (length old) in
      let e = on-table-leaves t f R (λ c cs w. settle-model-exactly c cs w (parts_of x) budget (length old)) (SettleLeaves x old new r) in
      (λ g. e.0 (record { answer = g.answer; trace = g.trace }), λ g. let l = e.1 g in record { answer = l.answer; trace = l.trace })

  pub settle-list-answers-exactly : (l : List ℕ) (r : Result Settled Refusal) → SettleListCall t x l r ↔ SettleListExactly t x l r
  settle-list-answers-exactly l r =
      let R : Comp → List Comp → Answer (Settling (List ℕ)) → Type 0 = λ c cs. SettleListAnswer c cs (parts_of x) l in
      let e = on-table-leaves t (λ m. settle_list_of m (parts_of x) l) R (λ c cs w. settle-list-model-exactly c cs w (parts_of x) l)
      (λ a. SettleAnswers a x r) in
      (λ g. e.0 g.answer, λ g. record { answer = e.1 g })
