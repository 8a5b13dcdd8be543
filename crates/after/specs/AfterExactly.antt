-- What `settle_after` and `settle_list_after` answer, said of the product of the model that the table holds: every refusal with its reason, in order.
use Rattle.std.specs.Prelude.{◌≡◌, List, [], ◌∷◌, ℕ, ◌*◌, ◌≤◌, length, Result}
use Rattle.answer.specs.Limits.{max_budget}
use Rattle.answer.specs.Told.{tell, Answer, refused}
use Rattle.answer.specs.declared.Refusal.{Refusal}
use Rattle.answer.specs.declared.Settled.{Settled}
use Rattle.model.specs.Model.{Comp}
use Rattle.iosa.specs.Product.{product, state_of, Within}
use Rattle.iosa.specs.Orders.{Called, Settling}
use Rattle.iosa.specs.InOrder.{◌▹◌, Gives, Leaves, needs, room, accepted}
use Rattle.answering.specs.Answers.{ListAnswer}
use Rattle.walkable.specs.Entry.{settles}
use Rattle.layout.specs.OnImage.{OnImage}
use Rattle.paths.specs.Path.{Path, StopsAt}
use Rattle.run.specs.Calls.{trace_after}
use Rattle.after.specs.Calls.{AfterAnswers}

-- 46 at the first step that is not possible, or the path leads from the start of the product to s, and then what R answers of s
pub data AfterPath {A : Type 0} (c : Comp) (cs : List Comp) (p : List ℕ) (R : List ℕ → Answer A → Type 0) : Answer A → Type 0 where
  is46 : {i : ℕ} → StopsAt (product c cs) (product c cs).start p i → AfterPath c cs p R (refused (tell 46 (i ∷ [])))
  leads : {s : List ℕ} {a : Answer A} → Path (product c cs) (product c cs).start p (state_of c cs s) → Within (c ∷ cs) s → R s a → AfterPath c cs p R a

-- 22 for more than 4,096 steps of two bytes, a last byte alone counted as one
abbrev pub WalkAnswer : {A : Type 0} → Comp → List Comp → List ℕ → (List ℕ → Answer A → Type 0) → Answer A → Type 0
WalkAnswer c cs p R = accepted (c ∷ cs) ▹ settles (c ∷ cs) ▹ needs 22 (length p ≤ 2 * max_budget) ▹ AfterPath c cs p R

-- then 22 for the budget, then 24
abbrev pub SettleAfterAnswer : Comp → List Comp → List ℕ → ℕ → ℕ → Answer (Settling (List ℕ)) → Type 0
SettleAfterAnswer c cs p budget trace = WalkAnswer c cs p (λ s. needs 22 (budget ≤ max_budget) ▹ room budget trace ▹ Gives (Called c cs s budget))

-- then 22 for the list, then 23
abbrev pub SettleListAfterAnswer : Comp → List Comp → List ℕ → List ℕ → Answer (Settling (List ℕ)) → Type 0
SettleListAfterAnswer c cs p l = WalkAnswer c cs p (λ s. needs 22 (length l ≤ max_budget) ▹ ListAnswer c cs s l)

-- the answer, and the actions at the front of the trace
pub record AfterLeaves (old new : List ℕ) (r : Result Settled Refusal) (a : Answer (Settling (List ℕ))) : Type 0 where
  pub answer : AfterAnswers a r
  pub trace : new ≡ trace_after a old

abbrev pub SettleAfterExactly : List ℕ → List ℕ → ℕ → List ℕ → List ℕ → Result Settled Refusal → Type 0
SettleAfterExactly t p budget old new r = Leaves (OnImage t (λ c cs. SettleAfterAnswer c cs p budget (length old))) (AfterLeaves old new r)

abbrev pub SettleListAfterExactly : List ℕ → List ℕ → List ℕ → Result Settled Refusal → Type 0
SettleListAfterExactly t p l r = Leaves (OnImage t (λ c cs. SettleListAfterAnswer c cs p l)) (λ a. AfterAnswers a r)
