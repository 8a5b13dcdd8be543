-- The contracts of `settle_after` and `settle_list_after` say exactly what is said of the product.
use mathlib.Core.Logic.{◌↔◌}
use mathlib.Core.List.{List}
use Prim.Native.Nat.{ℕ}
use Rattle.std.specs.Prelude.{Result}
use lib.ListN.{length}
use Rattle.answer.specs.Told.{Answer}
use Rattle.answer.specs.declared.Refusal.{Refusal}
use Rattle.answer.specs.declared.Settled.{Settled}
use Rattle.model.specs.Model.{Comp, Model}
use Rattle.iosa.specs.Orders.{Settling}
use Rattle.table.proofs.OnImageExactly.{on-table-leaves}
use Rattle.after.specs.After.{settle_after_of, settle_list_after_of}
use Rattle.after.specs.Calls.{AfterAnswers, SettleAfterCall, SettleListAfterCall}
use Rattle.after.specs.AfterExactly.{SettleAfterAnswer, SettleListAfterAnswer, AfterLeaves, SettleAfterExactly, SettleListAfterExactly}
use Rattle.after.proofs.Models.{settle-after-model-exactly, settle-list-after-model-exactly}

module _ (t p : List ℕ) where
  pub settle-after-answers-exactly : (budget : ℕ) (old new : List ℕ) (r : Result Settled Refusal)
      → SettleAfterCall t p budget old new r ↔ SettleAfterExactly t p budget old new r
  settle-after-answers-exactly budget old new r =
      let f : Model → Answer (Settling (List ℕ)) = λ m. settle_after_of m p budget (length old) in
      let R : Comp → List Comp → Answer (Settling (List ℕ)) → Type 0 = λ c cs. SettleAfterAnswer c cs p budget (length old) in
      let e = on-table-leaves t f R (λ c cs w. settle-after-model-exactly c cs w p budget (length old)) (AfterLeaves old new r) in
      (λ g. e.0 (record { answer = g.answer; trace = g.trace }), λ g. let l = e.1 g in record { answer = l.answer; trace = l.trace })

  pub settle-list-after-answers-exactly : (l : List ℕ) (r : Result Settled Refusal) → SettleListAfterCall t p l r ↔ SettleListAfterExactly t p l r
  settle-list-after-answers-exactly l r =
      let R : Comp → List Comp → Answer (Settling (List ℕ)) → Type 0 = λ c cs. SettleListAfterAnswer c cs p l in
      let e = on-table-leaves t (λ m. settle_list_after_of m p l) R (λ c cs w. settle-list-after-model-exactly c cs w p l) (λ a. AfterAnswers a r) in
      (λ g. e.0 g.answer, λ g. record { answer = e.1 g })
