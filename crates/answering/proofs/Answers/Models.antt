-- What computes is exactly each call's relation: of `accept`, `confluent`, `step`, `step_by`, `settle` and `settle_list`, on any well-formed model.
use mathlib.Core.Path.{◌≡◌, refl, sym, ◌∙◌, ap, subst}
use mathlib.Core.Logic.{◌↔◌}
use mathlib.Core.Bool.{not}
use mathlib.Core.Option.{Option, none, some}
use mathlib.Core.List.{List, [], ◌∷◌}
use Prim.Native.Nat.{ℕ, ◌≤◌, ◌<◌}
use lib.ListN.{length, take}
use lib.Dec.{ltb}
use borrow.Author.Tests.{ltb-true, ltb-false, lt-ltb, le-ltb, not-false}
use Rattle.laws.specs.Search.{or_else}
use Rattle.laws.proofs.SearchLaws.{no-some}
use Rattle.answer.specs.Limits.{max_budget}
use Rattle.answer.specs.Told.{Told, tell, Answer, answered, refused, moved}
use Rattle.model.specs.Model.{Comp, Model, comp_at, row_count}
use Rattle.model.specs.WellFormed.{WellFormed}
use Rattle.iosa.specs.Automaton.{UrgentRow, Conforming, Joinable, AllConfluent}
use Rattle.iosa.specs.Product.{product, state_of, Within, Reached}
use Rattle.iosa.specs.Checks.{fault_at, index_fault, component_of, compatible_of, accept_of, clash_among, confluent_of}
use Rattle.iosa.specs.Step.{named, lowest, urgent_step, in_range, state_fault, unless, taken, taken_by, step_of, step_by_of}
use Rattle.iosa.specs.Settle.{settle, reach_fault, begin_fault, budget_fault, trace_fault, play, settle_of, settle_list_of}
use Rattle.iosa.specs.Stepped.{StepsByRule, StepsByName, by-action, Gone, Stepping}
use Rattle.iosa.specs.Orders.{OneEnd, Called, Settling}
use Rattle.iosa.specs.InOrder.{◌▹◌, refuses, passes, Gives, gives, needs, room, accepted, conforms, joinable, confluent}
use Rattle.answering.specs.Answers.{Fine, state_ok, AcceptAnswer, ComponentAnswer, CompatibleAnswer, ConfluentAnswer, StepAnswer, Enabled, StepByAnswer}
use Rattle.answering.specs.Answers.{parts_ok, SettleAnswer, ListAnswer, is23, is-series, SettleListAnswer}
use Rattle.iosa.proofs.Acceptance.Accepted.{conditions-exactly, joinable-exactly, accepted-exactly}
use Rattle.iosa.proofs.Acceptance.Refused.{refused-exactly, component-refused-exactly, compatible-refused-exactly}
use Rattle.iosa.proofs.Acceptance.InHalves.{there-own}
use Rattle.iosa.proofs.Acceptance.Clashes.{clash-exactly}
use Rattle.iosa.proofs.Acceptance.ConfluentExactly.{confluent-exactly}
use Rattle.iosa.proofs.Settling.Range.{range-exactly}
use Rattle.iosa.proofs.Settling.ProductOfMany.{wells}
use Rattle.iosa.proofs.Settling.Steps.{row-is-a-step, steps-exactly, step-is-a-row}
use Rattle.iosa.proofs.Settling.Demand3.{demand-3}
use Rattle.iosa.proofs.Settling.Listed.{list-that-is-a-series, list-that-is-no-series}
use Rattle.iosa.proofs.Settling.Called.{one_end}
use Rattle.iosa.proofs.Settling.StepCalled.{rule-taken, taken-rule}
use Rattle.iosa.proofs.Thesis.Proposition41.{component-definition, conforming-definition, accepted-is-definition-4-1}
use Rattle.iosa.proofs.Reaching.Refused19.{reach-faultless, reach-fault-exactly}
use Rattle.answering.proofs.Answers.InOrder.{Decided, refused_or, either, or-refused, unless-refused}
use Rattle.answering.proofs.Answers.InOrder.{check-exactly, gives-exactly, needs-decided, room-decided}
use Rattle.answering.proofs.Answers.OneRun.{our-run-exactly}

-- ---- the checks are decided
pub accepted-decided : (m : Model) → WellFormed m → Decided (accepted m) (accept_of m)
accepted-decided m w = record { told = refused-exactly m w; fine = accepted-is-definition-4-1 m w }

-- what comes after 10 to 17 may count on the conditions as they are checked
pub check-accepted : {A : Type 0} (m : Model) → WellFormed m → (x : Answer A) (R : Answer A → Type 0)
    → (Conforming m × Joinable m → (a : Answer A) → (x ≡ a) ↔ R a) → (a : Answer A) → (refused_or (accept_of m) x ≡ a) ↔ (accepted m ▹ R) a
check-accepted m w x R f = check-exactly (accepted m) (accept_of m) (accepted-decided m w) x R (λ k. f ((conforming-definition m w).1 k.0, k.1))

-- 25, and 10 to 14 of one component
index-decided : (m : Model) (i : ℕ) → Decided (needs 25 (i < length m)) (index_fault m i)
unfolding index_fault
index-decided m i = needs-decided 25 (i < length m) (not (ltb i (length m))) (
  λ e. ltb-true i (length m) (not-false (ltb i (length m)) e),
  λ h. rw (lt-ltb i (length m) h),
)

conforms-decided : (m : Model) → WellFormed m → (i : ℕ) → i < length m → Decided (conforms m i) (fault_at i (row_count (take i m)) (comp_at m i))
conforms-decided m w i h =
    let d = component-definition m w i h in
    record {
      told = λ t. rw (there-own m i h) at (component-refused-exactly m w i h t);
      fine = (
        λ e. d.0 ((conditions-exactly m w i).0 (there-own m i h ∙ e)).1,
        λ p. sym (there-own m i h) ∙ (conditions-exactly m w i).1 (h, d.1 p),
      );
    }

-- 15 to 17
joinable-decided : (m : Model) → WellFormed m → Decided (joinable m) (compatible_of m)
joinable-decided m w = record { told = compatible-refused-exactly m w; fine = joinable-exactly m w }

pub confluent-decided : (m : Model) → WellFormed m → Conforming m × Joinable m → Decided (confluent m) (clash_among 0 m)
unfolding confluent_of
confluent-decided m w k =
    let ok = (accepted-exactly m w).1 k in
    record { told = λ t. rw ok at (clash-exactly m w ok t); fine = rw ok at (confluent-exactly m w ok) }

state-decided : (c : Comp) (cs : List Comp) (s : List ℕ) → Decided (state_ok c cs s) (state_fault (c ∷ cs) s)
unfolding state_fault
state-decided c cs s = needs-decided 21 (Within (c ∷ cs) s) (not (in_range (c ∷ cs) s)) (
  λ e. (range-exactly (c ∷ cs) s).0 (not-false (in_range (c ∷ cs) s) e),
  λ w. rw ((range-exactly (c ∷ cs) s).1 w),
)

-- of a state in range
parts-decided : (c : Comp) (cs : List Comp) → WellFormed (c ∷ cs) → (s : List ℕ) → Within (c ∷ cs) s → Decided (parts_ok c cs s) (reach_fault (c ∷ cs) s)
parts-decided c cs well s w =
    let al = wells (c ∷ cs) well in
    record { told = reach-fault-exactly (c ∷ cs) s al w; fine = reach-faultless (c ∷ cs) s al w }

pub budget-decided : (n : ℕ) → Decided (needs 22 (n ≤ max_budget)) (budget_fault n)
unfolding budget_fault
budget-decided n = needs-decided 22 (n ≤ max_budget) (ltb max_budget n) (ltb-false max_budget n, le-ltb max_budget n)

trace-decided : (n bytes : ℕ) → Decided (room n bytes) (trace_fault n bytes)
unfolding trace_fault
trace-decided n bytes = room-decided n bytes

abbrev done : Unit {0}
done = tt

unit-exactly : (a : Answer (Unit {0})) → (answered done ≡ a) ↔ Fine a
unit-exactly = gives-exactly done (λ _. Unit {0}) (λ y. (λ e. tt, λ u. refl))

module _ (c : Comp) (cs : List Comp) (well : WellFormed (c ∷ cs)) where
  abbrev m : Model
  m = c ∷ cs

  pub accept-model-exactly : (a : Answer (Unit {0})) → (unless (accept_of m) tt ≡ a) ↔ AcceptAnswer c cs a
  accept-model-exactly a = rw (unless-refused (accept_of m) done) (
      check-accepted m well (answered done) Fine (λ p. unit-exactly) a)

  pub component-model-exactly : (i : ℕ) (a : Answer (Unit {0})) → (unless (component_of m i) tt ≡ a) ↔ ComponentAnswer i c cs a
  unfolding component_of
  component-model-exactly i a =
      let f = fault_at i (row_count (take i m)) (comp_at m i) in
      rw (unless-refused (or_else (index_fault m i) f) done ∙ or-refused (index_fault m i) f (answered done)) (
      check-exactly (needs 25 (i < length m)) (index_fault m i) (index-decided m i) (refused_or f (answered done)) (conforms m i ▹ Fine) (λ h.
      check-exactly (conforms m i) f (conforms-decided m well i h) (answered done) Fine (λ p. unit-exactly)) a)

  pub compatible-model-exactly : (a : Answer (Unit {0})) → (unless (compatible_of m) tt ≡ a) ↔ CompatibleAnswer c cs a
  compatible-model-exactly a = rw (unless-refused (compatible_of m) done) (
      check-exactly (joinable m) (compatible_of m) (joinable-decided m well) (answered done) Fine (λ p. unit-exactly) a)

  pub confluent-model-exactly : (a : Answer (Unit {0})) → (unless (confluent_of m) tt ≡ a) ↔ ConfluentAnswer c cs a
  unfolding confluent_of
  confluent-model-exactly a = rw (unless-refused (or_else (accept_of m) (clash_among 0 m)) done ∙ or-refused (accept_of m) (clash_among 0 m) (answered done)) (
      check-accepted m well (refused_or (clash_among 0 m) (answered done)) (confluent m ▹ Fine) (λ k.
      check-exactly (confluent m) (clash_among 0 m) (confluent-decided m well k) (answered done) Fine (λ p. unit-exactly)) a)

  module _ (s : List ℕ) where
    pub step-model-exactly : (a : Answer Stepping) → (step_of m s ≡ a) ↔ StepAnswer c cs s a
    unfolding step_of
    step-model-exactly a =
        let x = taken s (lowest (urgent_step m) s) in
        rw (unless-refused (or_else (accept_of m) (state_fault m s)) x ∙ or-refused (accept_of m) (state_fault m s) (answered x)) (
        check-accepted m well (refused_or (state_fault m s) (answered x))
        (state_ok c cs s ▹ Gives (StepsByRule c cs s)) (λ k.
        check-exactly (state_ok c cs s) (state_fault m s) (state-decided c cs s) (answered x) (Gives (StepsByRule c cs s)) (λ w.
        gives-exactly x (StepsByRule c cs s) (λ v. (
          λ e. subst (StepsByRule c cs s) e (rule-taken c cs well k.0 k.1 s w (lowest (urgent_step m) s) refl),
          taken-rule c cs well k.0 k.1 s w,
        )))) a)

    -- 23, or the named step
    module _ (k : Conforming m × Joinable m) (w : Within m s) (b : ℕ) where
      by-named : (o : Option (Gone (List ℕ))) → urgent_step m s b ≡ o → (a : Answer Stepping)
          → (taken_by (named b o) ≡ a) ↔ (needs 23 (Enabled c cs s b) ▹ Gives (StepsByName c cs s b)) a
      by-named none h a = (λ e. subst (needs 23 (Enabled c cs s b) ▹ Gives (StepsByName c cs s b)) e (refuses (disabled, refl)), back)
        where
          disabled : Enabled c cs s b → ⊥
          disabled e = no-some h (row-is-a-step c cs well k.0 k.1 s w e.2 e.3).step

          back : {a : Answer Stepping} → (needs 23 (Enabled c cs s b) ▹ Gives (StepsByName c cs s b)) a → taken_by (named b none) ≡ a
          back (refuses p) = ap refused (sym p.1)
          back (passes e r) = absurd (disabled e)
      by-named (some g) h a = (λ e. subst (needs 23 (Enabled c cs s b) ▹ Gives (StepsByName c cs s b)) e (passes enabled (gives by_row)), back)
        where
          p : UrgentRow (product c cs) (state_of c cs s) 0 b g.resets (state_of c cs g.after) × Within m g.after
          p = step-is-a-row c cs well k.0 k.1 s w b g h

          by_row : StepsByName c cs s b (record { step = moved b g.resets; state = g.after })
          by_row = by-action (record { row = p.0; range = p.1 })

          enabled : Enabled c cs s b
          enabled = (0, g.resets, state_of c cs g.after, p.0)

          one : {v : Stepping} → StepsByName c cs s b v → taken_by (named b (some g)) ≡ answered v
          one (by-action {R = R} {t = t} q) =
              ap (λ o. taken_by (named b o)) (sym h ∙ (steps-exactly c cs well k.0 k.1 s w b (record { resets = R; after = t })).1 (q.row, q.range))

          back : {a : Answer Stepping} → (needs 23 (Enabled c cs s b) ▹ Gives (StepsByName c cs s b)) a → taken_by (named b (some g)) ≡ a
          back (refuses q) = absurd (q.0 enabled)
          back (passes e (gives q)) = one q

    pub step-by-model-exactly : (b : ℕ) (a : Answer Stepping) → (step_by_of m s b ≡ a) ↔ StepByAnswer c cs s b a
    unfolding step_by_of
    step-by-model-exactly b a =
        let x = taken_by (named b (urgent_step m s b)) in
        let R = needs 23 (Enabled c cs s b) ▹ Gives (StepsByName c cs s b) in
        rw (either (or_else (accept_of m) (state_fault m s)) x ∙ or-refused (accept_of m) (state_fault m s) x) (
        check-accepted m well (refused_or (state_fault m s) x) (state_ok c cs s ▹ R) (λ k.
        check-exactly (state_ok c cs s) (state_fault m s) (state-decided c cs s) x R (λ w. by-named k w b (urgent_step m s b) refl)) a)

    -- ---- settling
    module _ (k : Conforming m × Joinable m) (al : AllConfluent m) (w : Within m s) (r : Reached m s) where
      confluent-none : confluent_of m ≡ none
      confluent-none = (confluent-exactly m well ((accepted-exactly m well).1 k)).1 al

      pub orders-agree : OneEnd (product c cs) (state_of c cs s)
      orders-agree = one_end (demand-3 c cs well confluent-none s r)

      called-exactly : (budget : ℕ) (d : Settling (List ℕ)) → (settle (urgent_step m) budget s ≡ d) ↔ Called c cs s budget d
      called-exactly budget d =
          let t = demand-3 c cs well confluent-none s r in
          let o = our-run-exactly c cs well k.0 k.1 s w budget d in (
            λ e. record {
              orders = orders-agree;
              run = o.0 e;
              enough = λ run st h. rw (← e) ((t.stops run st).enough budget h).stable;
              short = λ run st h. rw (← e) ((t.stops run st).short budget h).unstable;
              never = λ f. rw (← e) (t.never f budget).unstable;
            },
            λ d. o.1 d.run,
          )

      list-exactly : (l : List ℕ) (a : Answer (Settling (List ℕ))) → (play m 0 l s ≡ a) ↔ ListAnswer c cs s l a
      list-exactly l a = (λ e. there (play m 0 l s) refl e, back)
        where
          there : (x : Answer (Settling (List ℕ))) → play m 0 l s ≡ x → {a : Answer (Settling (List ℕ))} → x ≡ a → ListAnswer c cs s l a
          there (answered d) h e = subst (ListAnswer c cs s l) e
              (is-series (record { orders = orders-agree; listed = (list-that-is-a-series c cs well k.0 k.1 s w l d).0 h }))
          there (refused t) h e =
              let p = (list-that-is-no-series c cs well k.0 k.1 s w l t).0 h in
              subst (ListAnswer c cs s l) (ap refused (sym p.1) ∙ e) (is23 p.2)

          back : {a : Answer (Settling (List ℕ))} → ListAnswer c cs s l a → play m 0 l s ≡ a
          back (is23 {i = i} n) = (list-that-is-no-series c cs well k.0 k.1 s w l (tell 23 (i ∷ []))).1 (i, refl, n)
          back (is-series {d = d} r) = (list-that-is-a-series c cs well k.0 k.1 s w l d).1 r.listed

    -- what `confluent` refuses, then 21, then 19, then the call's own
    after-19 : {A : Type 0} (p : Option Told) (x : Answer A) (R : Answer A → Type 0)
        → (Conforming m × Joinable m → AllConfluent m → Within m s → Reached m s → (a : Answer A) → (refused_or p x ≡ a) ↔ R a)
        → (a : Answer A) → ((elim (or_else (confluent_of m) (or_else (begin_fault m s) p)) as (λ _. Answer A) [ some t ↦ refused t | none ↦ x ]) ≡ a)
        ↔ (accepted m ▹ confluent m ▹ state_ok c cs s ▹ parts_ok c cs s ▹ R) a
    unfolding confluent_of begin_fault
    after-19 p x R f a =
        let y = refused_or p x in
        let v = refused_or (reach_fault m s) y in
        let z = refused_or (state_fault m s) v in
        let e = or-refused (or_else (accept_of m) (clash_among 0 m)) (or_else (or_else (state_fault m s) (reach_fault m s)) p) x in
        let h = or-refused (or_else (state_fault m s) (reach_fault m s)) p x ∙ or-refused (state_fault m s) (reach_fault m s) y in
        let g = ap (refused_or (or_else (accept_of m) (clash_among 0 m))) h in
        rw (either (or_else (confluent_of m) (or_else (begin_fault m s) p)) x ∙ e ∙ g ∙ or-refused (accept_of m) (clash_among 0 m) z) (
        check-accepted m well (refused_or (clash_among 0 m) z) (confluent m ▹ state_ok c cs s ▹ parts_ok c cs s ▹ R) (λ k.
        check-exactly (confluent m) (clash_among 0 m) (confluent-decided m well k) z (state_ok c cs s ▹ parts_ok c cs s ▹ R) (λ al.
        check-exactly (state_ok c cs s) (state_fault m s) (state-decided c cs s) v (parts_ok c cs s ▹ R) (λ w.
        check-exactly (parts_ok c cs s) (reach_fault m s) (parts-decided c cs well s w) y R (λ r. f k al w r)))) a)

    pub settle-model-exactly : (budget trace : ℕ) (a : Answer (Settling (List ℕ))) → (settle_of m s budget trace ≡ a) ↔ SettleAnswer c cs s budget trace a
    unfolding settle_of
    settle-model-exactly budget trace a =
        let x : Answer (Settling (List ℕ)) = answered (settle (urgent_step m) budget s) in
        let b = budget_fault budget in
        let t = trace_fault budget trace in
        after-19 (or_else b t) x (needs 22 (budget ≤ max_budget) ▹ room budget trace ▹ Gives (Called c cs s budget)) (λ k al w r a. rw (or-refused b t x) (
        check-exactly (needs 22 (budget ≤ max_budget)) b (budget-decided budget) (refused_or t x) (room budget trace ▹ Gives (Called c cs s budget)) (λ h.
        check-exactly (room budget trace) t (trace-decided budget trace) x (Gives (Called c cs s budget)) (λ i.
        gives-exactly (settle (urgent_step m) budget s) (Called c cs s budget) (called-exactly k al w r budget))) a)) a

    pub settle-list-model-exactly : (l : List ℕ) (a : Answer (Settling (List ℕ))) → (settle_list_of m s l ≡ a) ↔ SettleListAnswer c cs s l a
    unfolding settle_list_of
    settle-list-model-exactly l a =
        after-19 (budget_fault (length l)) (play m 0 l s) (needs 22 (length l ≤ max_budget) ▹ ListAnswer c cs s l) (λ k al w r.
        check-exactly (needs 22 (length l ≤ max_budget)) (budget_fault (length l)) (budget-decided (length l)) (play m 0 l s) (ListAnswer c cs s l) (λ h.
        list-exactly k al w r l)) a
