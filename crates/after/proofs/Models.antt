-- What computes is exactly each call's relation: of `settle_after` and `settle_list_after`, on any well-formed model.
use mathlib.Core.Path.{◌≡◌, refl, sym, ◌∙◌, ap, subst}
use mathlib.Core.Logic.{◌↔◌}
use mathlib.Core.Option.{Option, none, some}
use mathlib.Core.List.{List, [], ◌∷◌}
use Prim.Native.Nat.{ℕ, ◌*◌, ◌≤◌}
use lib.ListN.{length}
use lib.Dec.{ltb}
use borrow.Author.Tests.{ltb-false, le-ltb}
use Rattle.answer.specs.Limits.{max_budget}
use Rattle.answer.specs.Told.{Told, tell, Answer, answered, refused}
use Rattle.model.specs.Model.{Comp, Model}
use Rattle.model.specs.WellFormed.{WellFormed}
use Rattle.iosa.specs.Automaton.{Reachable}
use Rattle.iosa.specs.Product.{product, state_of, Within}
use Rattle.iosa.specs.Start.{start_all}
use Rattle.iosa.specs.Step.{urgent_step}
use Rattle.iosa.specs.Settle.{settle, play, budget_fault, trace_fault}
use Rattle.iosa.specs.Orders.{Called, Settling}
use Rattle.iosa.specs.Demand3.{Demand3}
use Rattle.iosa.specs.InOrder.{◌▹◌, Gives, needs, room}
use Rattle.answering.specs.Answers.{ListAnswer, is23, is-series}
use Rattle.iosa.proofs.Settling.Called.{one_end}
use Rattle.iosa.proofs.Settling.Listed.{list-that-is-a-series, list-that-is-no-series}
use Rattle.answering.proofs.Answers.InOrder.{Decided, refused_or, either, or-refused, unless-refused, check-exactly, gives-exactly, needs-decided, room-decided}
use Rattle.answering.proofs.Answers.Models.{budget-decided}
use Rattle.answering.proofs.Answers.OneRun.{our-run-exactly}
use Rattle.triggering.specs.Test.{entry_of}
use Rattle.walkable.specs.Orderly.{Settles}
use Rattle.walkable.proofs.Orderly.{demand-3-after-a-path}
use Rattle.walkable.proofs.Entry.{check-settles}
use Rattle.paths.specs.Path.{walk, long_path}
use Rattle.paths.proofs.Walked.{walked-exactly, walked-reaches}
use Rattle.paths.proofs.Stopped.{stopped-exactly}
use Rattle.after.specs.After.{path_fault, walk_of, after_path, settle_fault, settle_from, settle_after_of, list_from, settle_list_after_of}
use Rattle.after.specs.AfterExactly.{AfterPath, is46, leads, WalkAnswer, SettleAfterAnswer, SettleListAfterAnswer}

long-decided : (p : List ℕ) → Decided (needs 22 (length p ≤ 2 * max_budget)) (long_path p)
unfolding long_path
long-decided p =
    let n = 2 * max_budget in
    needs-decided 22 (length p ≤ n) (ltb n (length p)) (ltb-false n (length p), le-ltb n (length p))

trace-decided : (n bytes : ℕ) → Decided (room n bytes) (trace_fault n bytes)
unfolding trace_fault
trace-decided n bytes = room-decided n bytes

-- a refusal before the path is one of what follows it
refused-after : {A : Type 0} (f : List ℕ → Answer A) (m : Model) (p : List ℕ)
    → after_path f (walk_of m p) ≡ refused_or (entry_of m) (refused_or (long_path p) (after_path f (walk m 0 p (start_all m))))
unfolding walk_of path_fault
refused-after {A} f m p =
    ap (after_path f) (either (path_fault m p) (walk m 0 p (start_all m)) ∙ or-refused (entry_of m) (long_path p) (walk m 0 p (start_all m)))
    ∙ through (entry_of m) (refused_or (long_path p) (walk m 0 p (start_all m))) ∙ ap (refused_or (entry_of m)) (through (long_path p) (walk m 0 p (start_all m)))
  where
    through : (o : Option Told) (x : Answer (List ℕ)) → after_path f (refused_or o x) ≡ refused_or o (after_path f x)
    through none x = refl
    through (some t) x = refl

module _ (c : Comp) (cs : List Comp) (well : WellFormed (c ∷ cs)) where
  abbrev m : Model
  m = c ∷ cs

  module _ (k : Settles m) (p : List ℕ) where
    -- 46, or what follows from where the path leads
    module _ {A : Type 0} (f : List ℕ → Answer A) (R : List ℕ → Answer A → Type 0)
        (rest : (s : List ℕ) → Within m s → Reachable (product c cs) (state_of c cs s) → (a : Answer A) → (f s ≡ a) ↔ R s a) where
      there : (v : Answer (List ℕ)) → walk m 0 p (start_all m) ≡ v → {a : Answer A} → after_path f v ≡ a → AfterPath c cs p R a
      there (answered s) h {a} e =
          let w = (walked-exactly c cs well k.conforms k.joins p s).0 h in
          leads w.0 w.1 ((rest s w.1 (walked-reaches c cs well k.conforms k.joins p s h) a).0 e)
      there (refused t) h e =
          let w = (stopped-exactly c cs well k.conforms k.joins p t).0 h in
          subst (AfterPath c cs p R) (ap refused (sym w.1) ∙ e) (is46 w.2)

      back : {a : Answer A} → AfterPath c cs p R a → after_path f (walk m 0 p (start_all m)) ≡ a
      back (is46 {i = i} h) = ap (after_path f) ((stopped-exactly c cs well k.conforms k.joins p (tell 46 (i ∷ []))).1 (i, refl, h))
      back (leads {s = s} {a = a} h w r) =
          let e = (walked-exactly c cs well k.conforms k.joins p s).1 (h, w) in
          ap (after_path f) e ∙ (rest s w (walked-reaches c cs well k.conforms k.joins p s e) a).1 r

      after-path-exactly : (a : Answer A) → (after_path f (walk m 0 p (start_all m)) ≡ a) ↔ AfterPath c cs p R a
      after-path-exactly a = (there (walk m 0 p (start_all m)) refl, back)

    -- ---- from a state that the path leads to
    module _ (s : List ℕ) (w : Within m s) (r : Reachable (product c cs) (state_of c cs s)) where
      three : Demand3 c cs s
      three = demand-3-after-a-path c cs well k s w r

      called-exactly : (budget : ℕ) (d : Settling (List ℕ)) → (settle (urgent_step m) budget s ≡ d) ↔ Called c cs s budget d
      called-exactly budget d =
          let o = our-run-exactly c cs well k.conforms k.joins s w budget d in (
            λ e. record {
              orders = one_end three;
              run = o.0 e;
              enough = λ run st h. rw (← e) ((three.stops run st).enough budget h).stable;
              short = λ run st h. rw (← e) ((three.stops run st).short budget h).unstable;
              never = λ f. rw (← e) (three.never f budget).unstable;
            },
            λ d. o.1 d.run,
          )

      listed-exactly : (l : List ℕ) (a : Answer (Settling (List ℕ))) → (play m 0 l s ≡ a) ↔ ListAnswer c cs s l a
      listed-exactly l a = (λ e. to (play m 0 l s) refl e, from)
        where
          to : (x : Answer (Settling (List ℕ))) → play m 0 l s ≡ x → {a : Answer (Settling (List ℕ))} → x ≡ a → ListAnswer c cs s l a
          to (answered d) h e = subst (ListAnswer c cs s l) e
              (is-series (record { orders = one_end three; listed = (list-that-is-a-series c cs well k.conforms k.joins s w l d).0 h }))
          to (refused t) h e =
              let q = (list-that-is-no-series c cs well k.conforms k.joins s w l t).0 h in
              subst (ListAnswer c cs s l) (ap refused (sym q.1) ∙ e) (is23 q.2)

          from : {a : Answer (Settling (List ℕ))} → ListAnswer c cs s l a → play m 0 l s ≡ a
          from (is23 {i = i} n) = (list-that-is-no-series c cs well k.conforms k.joins s w l (tell 23 (i ∷ []))).1 (i, refl, n)
          from (is-series {d = d} g) = (list-that-is-a-series c cs well k.conforms k.joins s w l d).1 g.listed

  -- the checks of the table and of the path's length, then the path
  walk-answer : {A : Type 0} (p : List ℕ) (f : List ℕ → Answer A) (R : List ℕ → Answer A → Type 0)
      → (Settles m → (s : List ℕ) → Within m s → Reachable (product c cs) (state_of c cs s) → (a : Answer A) → (f s ≡ a) ↔ R s a)
      → (a : Answer A) → (after_path f (walk_of m p) ≡ a) ↔ WalkAnswer c cs p R a
  walk-answer p f R rest a =
      let x = after_path f (walk m 0 p (start_all m)) in
      rw (refused-after f m p) (
      check-settles m well (refused_or (long_path p) x) (needs 22 (length p ≤ 2 * max_budget) ▹ AfterPath c cs p R) (λ k.
      check-exactly (needs 22 (length p ≤ 2 * max_budget)) (long_path p) (long-decided p) x (AfterPath c cs p R) (λ h.
      after-path-exactly k p f R (rest k))) a)

  pub settle-after-model-exactly : (p : List ℕ) (budget trace : ℕ) (a : Answer (Settling (List ℕ)))
      → (settle_after_of m p budget trace ≡ a) ↔ SettleAfterAnswer c cs p budget trace a
  unfolding settle_after_of settle_from
  settle-after-model-exactly p budget trace a =
      let b = budget_fault budget in
      let t = trace_fault budget trace in
      let R : List ℕ → Answer (Settling (List ℕ)) → Type 0 = λ s. needs 22 (budget ≤ max_budget) ▹ room budget trace ▹ Gives (Called c cs s budget) in
      walk-answer p (settle_from m budget trace) R (λ k s w r a.
      let x = settle (urgent_step m) budget s in
      rw (unless-refused (settle_fault budget trace) x ∙ or-refused b t (answered x)) (
      check-exactly (needs 22 (budget ≤ max_budget)) b (budget-decided budget) (refused_or t (answered x))
      (room budget trace ▹ Gives (Called c cs s budget)) (λ h.
      check-exactly (room budget trace) t (trace-decided budget trace) (answered x) (Gives (Called c cs s budget)) (λ i.
      gives-exactly x (Called c cs s budget) (called-exactly k p s w r budget))) a)) a

  pub settle-list-after-model-exactly : (p l : List ℕ) (a : Answer (Settling (List ℕ))) → (settle_list_after_of m p l ≡ a) ↔ SettleListAfterAnswer c cs p l a
  unfolding settle_list_after_of list_from
  settle-list-after-model-exactly p l a =
      let b = budget_fault (length l) in
      let R : List ℕ → Answer (Settling (List ℕ)) → Type 0 = λ s. needs 22 (length l ≤ max_budget) ▹ ListAnswer c cs s l in
      walk-answer p (list_from m l) R (λ k s w r a. rw (either b (play m 0 l s)) (
      check-exactly (needs 22 (length l ≤ max_budget)) b (budget-decided (length l)) (play m 0 l s) (ListAnswer c cs s l) (λ h. listed-exactly k p s w r l) a)) a
