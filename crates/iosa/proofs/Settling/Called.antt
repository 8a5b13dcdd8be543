-- Demand 3 of the call: settling that is not refused answers what the theorem says, and it is refused for nothing else.
use mathlib.Core.Path.{◌≡◌, refl, ap}
use mathlib.Core.Logic.{◌↔◌}
use mathlib.Core.Bool.{not}
use mathlib.Core.Option.{Option, none, some}
use mathlib.Core.List.{List, [], ◌∷◌}
use Prim.Native.Nat.{ℕ, ◌≤◌}
use native.Mathlib.Omega.{arith}
use lib.ListN.{length}
use lib.Dec.{ltb}
use borrow.Author.Tests.{ltb-false, le-ltb, not-false}
use Rattle.laws.specs.Search.{or_else}
use Rattle.laws.proofs.SearchLaws.{no-some, when-none, or_else_none}
use Rattle.answer.specs.Limits.{max_budget}
use Rattle.answer.specs.Told.{Told, tell, Answer, answered, refused}
use Rattle.model.specs.Model.{Comp, Model}
use Rattle.model.specs.WellFormed.{WellFormed}
use Rattle.iosa.specs.Product.{product, state_of, Within}
use Rattle.iosa.specs.Checks.{confluent_of}
use Rattle.iosa.specs.Step.{urgent_step, in_range, state_fault}
use Rattle.iosa.specs.Settle.{settle, reach_fault, begin_fault, budget_fault, trace_fault, play, settle_of, settle_list_of}
use Rattle.iosa.specs.Orders.{OneEnd, Called, Settling}
use Rattle.iosa.specs.Demand3.{Demand3}
use Rattle.iosa.proofs.Acceptance.Accepted.{accepted-exactly}
use Rattle.iosa.proofs.Acceptance.ConfluentExactly.{confluent-accepted}
use Rattle.iosa.proofs.Settling.Range.{range-exactly}
use Rattle.iosa.proofs.Settling.ProductOfMany.{wells}
use Rattle.iosa.proofs.Settling.Demand3.{demand-3, our-run-is-a-series}
use Rattle.iosa.proofs.Reaching.Refused19.{reach-faultless}

pub no_answer : {A : Type 0} {t : Told} {x : A} → refused t ≡ answered x → ⊥
no_answer p = let z : ◌≡◌ {A = ℕ} 0 1 = cc in omega arith

pub same_answer : {A : Type 0} {x y : A} → answered x ≡ answered y → x ≡ y
same_answer p = cc

pub same-refusal : {A : Type 0} {t u : Told} → ◌≡◌ {A = Answer A} (refused t) (refused u) → t ≡ u
same-refusal p = cc

-- a refusal, or else what follows
pub answers-exactly : {A : Type 0} (o : Option Told) (x : Answer A) (y : A)
    → ((elim o as (λ _. Answer A) [ some t ↦ refused t | none ↦ x ]) ≡ answered y) ↔ (o ≡ none) × (x ≡ answered y)
answers-exactly none x y = (λ e. (refl, e), λ p. p.1)
answers-exactly (some t) x y = (λ e. absurd (no_answer e), λ p. absurd (no-some p.0 refl))

pub not-refused : {A : Type 0} (o : Option Told) (x : Answer A) → o ≡ none → (elim o as (λ _. Answer A) [ some t ↦ refused t | none ↦ x ]) ≡ x
not-refused none x e = refl
not-refused (some t) x e = absurd (no-some e refl)

none_of_four : {A : Type 0} (o p q r : Option A) → o ≡ none → p ≡ none → q ≡ none → r ≡ none → or_else o (or_else p (or_else q r)) ≡ none
none_of_four o p q r e f g h = simp (e, f, g, h)

-- no refusal of 21, 19, 22 and 24
pub state-faultless : (m : Model) (s : List ℕ) → (state_fault m s ≡ none) ↔ Within m s
unfolding state_fault
state-faultless m s = (
  λ e. (range-exactly m s).0 (not-false (in_range m s) (when-none (not (in_range m s)) (tell 21 (0 ∷ [])) e)),
  λ w. rw ((range-exactly m s).1 w),
)

pub begin-faultless : (m : Model) (s : List ℕ) → (begin_fault m s ≡ none) ↔ Within m s × (reach_fault m s ≡ none)
unfolding begin_fault
begin-faultless m s = (
  λ e. let p = or_else_none (state_fault m s) (reach_fault m s) e in ((state-faultless m s).0 p.0, p.1),
  λ p. simp ((state-faultless m s).1 p.0, p.1),
)

pub budget-faultless : (n : ℕ) → (budget_fault n ≡ none) ↔ (n ≤ max_budget)
unfolding budget_fault
budget-faultless n = (λ e. ltb-false max_budget n (when-none (ltb max_budget n) (tell 22 (0 ∷ [])) e), λ h. rw (le-ltb max_budget n h))

pub trace-faultless : (n room : ℕ) → (trace_fault n room ≡ none) ↔ (n ≤ room)
unfolding trace_fault
trace-faultless n room = (λ e. ltb-false room n (when-none (ltb room n) (tell 24 (n ∷ [])) e), λ h. rw (le-ltb room n h))

-- when the call answers, and what
pub settle-answers-exactly : (m : Model) (s : List ℕ) (budget room : ℕ) (d : Settling (List ℕ))
    → (settle_of m s budget room ≡ answered d)
    ↔ (confluent_of m ≡ none) × (Within m s × (reach_fault m s ≡ none)) × (budget ≤ max_budget) × (budget ≤ room) × (settle (urgent_step m) budget s ≡ d)
unfolding settle_of
settle-answers-exactly m s budget room d =
    let o = or_else (confluent_of m) (or_else (begin_fault m s) (or_else (budget_fault budget) (trace_fault budget room))) in
    let x = answers-exactly o (answered (settle (urgent_step m) budget s)) d in (
      λ e.
          let p = x.0 e in
          let q = or_else_none (confluent_of m) _ p.0 in
          let r = or_else_none (begin_fault m s) _ q.1 in
          let t = or_else_none (budget_fault budget) _ r.1 in
          (q.0, (begin-faultless m s).0 r.0, (budget-faultless budget).0 t.0, (trace-faultless budget room).0 t.1, same_answer p.1),
      λ p. x.1 (
        none_of_four (confluent_of m) (begin_fault m s) (budget_fault budget) (trace_fault budget room)
            p.0 ((begin-faultless m s).1 p.1) ((budget-faultless budget).1 p.2) ((trace-faultless budget room).1 p.3),
        ap answered p.4,
      ),
    )

pub settle-list-answers-exactly : (m : Model) (s l : List ℕ) (d : Settling (List ℕ))
    → (settle_list_of m s l ≡ answered d) ↔ (confluent_of m ≡ none) × (Within m s × (reach_fault m s ≡ none)) × (length l ≤ max_budget) × (play m 0 l s ≡ answered d)
unfolding settle_list_of
settle-list-answers-exactly m s l d =
    let x = answers-exactly (or_else (confluent_of m) (or_else (begin_fault m s) (budget_fault (length l)))) (play m 0 l s) d in (
      λ e.
          let p = x.0 e in
          let q = or_else_none (confluent_of m) _ p.0 in
          let r = or_else_none (begin_fault m s) _ q.1 in
          (q.0, (begin-faultless m s).0 r.0, (budget-faultless (length l)).0 r.1, p.1),
      λ p. x.1 (simp (p.0, (begin-faultless m s).1 p.1, (budget-faultless (length l)).1 p.2), p.3),
    )

-- demand 3 without what settling says
pub one_end : {c : Comp} {cs : List Comp} {s : List ℕ} → Demand3 c cs s → OneEnd (product c cs) (state_of c cs s)
one_end t = record {
  ends = t.ends;
  longest = λ run st other. (t.stops run st).longest other;
  same = λ run st other st'. (t.stops run st).same other st';
}

pub demand-3-of-the-call : (c : Comp) (cs : List Comp) → WellFormed (c ∷ cs) → (s : List ℕ) (budget room : ℕ) (d : Settling (List ℕ))
    → settle_of (c ∷ cs) s budget room ≡ answered d → Called c cs s budget d
demand-3-of-the-call c cs well s budget room d e =
    let p = (settle-answers-exactly (c ∷ cs) s budget room d).0 e in
    let k = (accepted-exactly (c ∷ cs) well).0 (confluent-accepted (c ∷ cs) p.0) in
    let t = demand-3 c cs well p.0 s ((reach-faultless (c ∷ cs) s (wells (c ∷ cs) well) p.1.0).0 p.1.1) in
    rw (← p.4) (record {
      orders = one_end t;
      run = our-run-is-a-series c cs well k.0 k.1 s p.1.0 budget;
      enough = λ run st h. ((t.stops run st).enough budget h).stable;
      short = λ run st h. ((t.stops run st).short budget h).unstable;
      never = λ f. (t.never f budget).unstable;
    })
