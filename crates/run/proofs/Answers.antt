-- What the calls answer on a table, refusal by refusal, and how an answer in hand meets it.
use mathlib.Core.Path.{◌≡◌, refl, sym, ◌∙◌, ap, subst}
use mathlib.Core.Bool.{true, false, not}
use mathlib.Core.Option.{Option, none, some}
use mathlib.Core.List.{List, [], ◌∷◌}
use Prim.Native.Nat.{ℕ, ◌≤◌, ◌<◌}
use Rattle.std.specs.Prelude.{Result}
use lib.ListN.{length}
use borrow.Author.Tests.{lt-ltb, le-ltb}
use Rattle.laws.specs.Search.{when, or_else}
use Rattle.answer.specs.Limits.{max_budget}
use Rattle.answer.specs.Told.{Told, tell, Answer, answered, refused}
use Rattle.answer.specs.declared.State.{State}
use Rattle.answer.specs.declared.Refusal.{Refusal}
use Rattle.answer.specs.declared.Stepped.{Stepped}
use Rattle.answer.specs.declared.Settled.{Settled}
use Rattle.model.specs.Model.{Model}
use Rattle.iosa.specs.Checks.{accept_of, confluent_of}
use Rattle.iosa.specs.Step.{unless, urgent_step, in_range, state_fault, step_of, step_by_of}
use Rattle.iosa.specs.Stepped.{Stepping}
use Rattle.iosa.specs.Settle.{settle, play, begin_fault, budget_fault, trace_fault, settle_of, settle_list_of}
use Rattle.iosa.specs.Orders.{Settling}
use Rattle.settling.specs.Gives.{StepAnswers, SettleAnswers, by_rule_of, by_name_of}

-- ---- an answer in hand
pub step-answers : (v w : Answer Stepping) (x : State) (r : Result Stepped Refusal) → v ≡ w → StepAnswers w x r → StepAnswers v x r
step-answers v w x r e g = subst (λ (u : Answer Stepping). StepAnswers u x r) (sym e) g

pub settle-answers : (v w : Answer (Settling (List ℕ))) (x : State) (r : Result Settled Refusal) → v ≡ w → SettleAnswers w x r → SettleAnswers v x r
settle-answers v w x r e g = subst (λ (u : Answer (Settling (List ℕ))). SettleAnswers u x r) (sym e) g

-- ---- the model's calls, refusal by refusal
pub or-first {ℓ} : {A : Type ℓ} (o p : Option A) (x : A) → o ≡ some x → or_else o p ≡ some x
or-first o p x e = rw e

or-then {ℓ} : {A : Type ℓ} (o p : Option A) → o ≡ none → or_else o p ≡ p
or-then o p e = rw e

or-three {ℓ} : {A : Type ℓ} (o p q : Option A) → or_else (or_else o p) q ≡ or_else o (or_else p q)
or-three none p q = refl
or-three (some x) p q = refl

or-four {ℓ} : {A : Type ℓ} (o p q e : Option A) → or_else (or_else (or_else o p) q) e ≡ or_else o (or_else p (or_else q e))
or-four none p q e = or-three p q e
or-four (some x) p q e = refl

-- a refusal, or else what x says
abbrev pick : {A : Type 0} → Answer A → Option Told → Answer A
pick {A} x o = elim o as (λ _. Answer A) [ some t ↦ refused t | none ↦ x ]

module _ (m : Model) (s : List ℕ) where
  state-wrong : in_range m s ≡ false → state_fault m s ≡ some (tell 21 (0 ∷ []))
  unfolding state_fault
  state-wrong e = ap (λ b. when (not b) (tell 21 (0 ∷ []))) e

  state-right : in_range m s ≡ true → state_fault m s ≡ none
  unfolding state_fault
  state-right e = ap (λ b. when (not b) (tell 21 (0 ∷ []))) e

  -- ---- a step
  pub step-refused : (f : Told) → accept_of m ≡ some f → step_of m s ≡ refused f
  unfolding step_of
  step-refused f e = ap (λ o. unless o (by_rule_of m s)) (or-first (accept_of m) (state_fault m s) f e)

  pub named-refused : (a : ℕ) (f : Told) → accept_of m ≡ some f → step_by_of m s a ≡ refused f
  unfolding step_by_of
  named-refused a f e = ap (pick (by_name_of m s a)) (or-first (accept_of m) (state_fault m s) f e)

  module _ (ok : accept_of m ≡ none) where
    pub step-wrong : in_range m s ≡ false → step_of m s ≡ refused (tell 21 (0 ∷ []))
    unfolding step_of
    step-wrong e = ap (λ o. unless o (by_rule_of m s)) (or-then (accept_of m) (state_fault m s) ok ∙ state-wrong e)

    pub step-goes : in_range m s ≡ true → step_of m s ≡ answered (by_rule_of m s)
    unfolding step_of
    step-goes e = ap (λ o. unless o (by_rule_of m s)) (or-then (accept_of m) (state_fault m s) ok ∙ state-right e)

    pub named-wrong : (a : ℕ) → in_range m s ≡ false → step_by_of m s a ≡ refused (tell 21 (0 ∷ []))
    unfolding step_by_of
    named-wrong a e = ap (pick (by_name_of m s a)) (or-then (accept_of m) (state_fault m s) ok ∙ state-wrong e)

    pub named-goes : (a : ℕ) → in_range m s ≡ true → step_by_of m s a ≡ by_name_of m s a
    unfolding step_by_of
    named-goes a e = ap (pick (by_name_of m s a)) (or-then (accept_of m) (state_fault m s) ok ∙ state-right e)

  -- ---- settling
  budget-over : (n : ℕ) → max_budget < n → budget_fault n ≡ some (tell 22 (0 ∷ []))
  unfolding budget_fault
  budget-over n h = ap (λ b. when b (tell 22 (0 ∷ []))) (lt-ltb max_budget n h)

  budget-right : (n : ℕ) → n ≤ max_budget → budget_fault n ≡ none
  unfolding budget_fault
  budget-right n h = ap (λ b. when b (tell 22 (0 ∷ []))) (le-ltb max_budget n h)

  trace-short : (n room : ℕ) → room < n → trace_fault n room ≡ some (tell 24 (n ∷ []))
  unfolding trace_fault
  trace-short n room h = ap (λ b. when b (tell 24 (n ∷ []))) (lt-ltb room n h)

  trace-right : (n room : ℕ) → n ≤ room → trace_fault n room ≡ none
  unfolding trace_fault
  trace-right n room h = ap (λ b. when b (tell 24 (n ∷ []))) (le-ltb room n h)

  -- what stands in the way of the first step: what the model fails by, 21, 19, 22
  abbrev pub start_fault : ℕ → Option Told
  start_fault n = or_else (or_else (confluent_of m) (begin_fault m s)) (budget_fault n)

  module _ (ok : or_else (confluent_of m) (begin_fault m s) ≡ none) (n : ℕ) where
    pub start-over : max_budget < n → start_fault n ≡ some (tell 22 (0 ∷ []))
    start-over h = or-then (or_else (confluent_of m) (begin_fault m s)) (budget_fault n) ok ∙ budget-over n h

    pub start_right : n ≤ max_budget → start_fault n ≡ none
    start_right h = or-then (or_else (confluent_of m) (begin_fault m s)) (budget_fault n) ok ∙ budget-right n h

  module _ (n room : ℕ) where
    settle-picks : settle_of m s n room ≡ pick (answered (settle (urgent_step m) n s)) (or_else (start_fault n) (trace_fault n room))
    unfolding settle_of
    settle-picks = ap (pick (answered (settle (urgent_step m) n s))) (sym (or-four (confluent_of m) (begin_fault m s) (budget_fault n) (trace_fault n room)))

    pub settle-refused : (f : Told) → start_fault n ≡ some f → settle_of m s n room ≡ refused f
    settle-refused f e = settle-picks ∙ ap (pick (answered (settle (urgent_step m) n s))) (or-first (start_fault n) (trace_fault n room) f e)

    pub settle-short : start_fault n ≡ none → room < n → settle_of m s n room ≡ refused (tell 24 (n ∷ []))
    settle-short e k = settle-picks ∙ ap (pick (answered (settle (urgent_step m) n s))) (or-then (start_fault n) (trace_fault n room) e ∙ trace-short n room k)

    pub settle_goes : start_fault n ≡ none → n ≤ room → settle_of m s n room ≡ answered (settle (urgent_step m) n s)
    settle_goes e k = settle-picks ∙ ap (pick (answered (settle (urgent_step m) n s))) (or-then (start_fault n) (trace_fault n room) e ∙ trace-right n room k)

  module _ (l : List ℕ) where
    list-picks : settle_list_of m s l ≡ pick (play m 0 l s) (start_fault (length l))
    unfolding settle_list_of
    list-picks = ap (pick (play m 0 l s)) (sym (or-three (confluent_of m) (begin_fault m s) (budget_fault (length l))))

    pub list-refused : (f : Told) → start_fault (length l) ≡ some f → settle_list_of m s l ≡ refused f
    list-refused f e = list-picks ∙ ap (pick (play m 0 l s)) e

    pub list-goes : start_fault (length l) ≡ none → settle_list_of m s l ≡ play m 0 l s
    list-goes e = list-picks ∙ ap (pick (play m 0 l s)) e
