-- What the calls answer, branch by branch, is what they promise, and so is the trace.
use mathlib.Core.Path.{◌≡◌, refl, sym, ◌∙◌, ap, subst}
use mathlib.Core.Bool.{Bool, true, false}
use mathlib.Core.Option.{Option, none, some}
use mathlib.Core.List.{List, [], ◌∷◌}
use Prim.Native.Nat.{ℕ, ◌≤◌}
use native.Mathlib.Omega.{arith}
use lib.ListN.{length}
use Rattle.laws.proofs.SearchLaws.{or_else_none}
use Rattle.answer.specs.Told.{Told, told, Answer, answered, refused, says_checked}
use Rattle.answer.specs.State.{parts_of}
use Rattle.answer.specs.declared.State.{State}
use Rattle.answer.specs.Told.{Checked}
use Rattle.std.specs.Prelude.{Result, Ok, Err}
use Rattle.answer.specs.declared.Refusal.{Refusal}
use Rattle.answer.specs.declared.Settled.{Settled}
use Rattle.model.specs.Model.{Model}
use Rattle.model.specs.WellFormed.{WellFormed}
use Rattle.iosa.specs.Automaton.{Conforming, Joinable}
use Rattle.iosa.specs.Product.{Within}
use Rattle.iosa.specs.Step.{urgent_step, unless}
use Rattle.iosa.specs.Settle.{settle, play, budget_fault, trace_fault}
use Rattle.iosa.specs.Orders.{Settling}
use Rattle.iosa.proofs.Settling.Called.{trace-faultless}
use Rattle.iosa.proofs.Settling.Demand3.{our-run-is-a-series}
use Rattle.iosa.proofs.Settling.Listed.{list-that-is-a-series}
use Rattle.iosa.proofs.Settling.Parts.{within-length}
use Rattle.layout.specs.Image.{model_of}
use Rattle.layout.proofs.RowsOfRange.{well-formed}
use Rattle.table.specs.IsImage.{is_image}
use Rattle.table.specs.OnTable.{on_table}
use Rattle.table.proofs.OnTableLaws.{on-image, on-no-image}
use Rattle.words.proofs.Zeros.{with-zeros}
use Rattle.moves.proofs.Ready.{count-model, count-few}
use Rattle.parts.specs.Faults.{Says}
use Rattle.parts.proofs.Saying.{fine-none}
use Rattle.settling.specs.Gives.{SettlingGives, SettleGives, SettleAnswers, TraceHolds}
use Rattle.run.specs.Calls.{trace_after}
use Rattle.walking.specs.Walks.{Walks}
use Rattle.after.specs.After.{walk_of, after_path, settle_fault, settle_from, settle_after_of, list_from, settle_list_after_of}
use Rattle.after.specs.Calls.{walked_on, AfterGives, AfterAnswers}
use Rattle.after.specs.Calls.{settle_after_on, SettleAfterCall, settle_list_after_on, SettleListAfterCall}
use Rattle.after.proofs.Order.{refused-fault}
use Rattle.after.proofs.Leading.{Arrived, arrived, led-nowhere}

-- a call on a table is what follows the path on that table
after_on : {A : Type 0} (t p : List ℕ) (f : Model → List ℕ → Answer A)
    → on_table t (λ m. after_path (f m) (walk_of m p)) ≡ after_path (f (model_of t)) (walked_on t p)
after_on t p f = go (is_image t) refl
  where
    go : (b : Bool) → is_image t ≡ b → on_table t (λ m. after_path (f m) (walk_of m p)) ≡ after_path (f (model_of t)) (walked_on t p)
    go true h = on-image t (λ m. after_path (f m) (walk_of m p)) h ∙ ap (after_path (f (model_of t))) (sym (on-image t (λ m. walk_of m p) h))
    go false h = on-no-image t (λ m. after_path (f m) (walk_of m p)) h ∙ ap (after_path (f (model_of t))) (sym (on-no-image t (λ m. walk_of m p) h))

-- ---- a settling from a state with zeros behind its parts ends in one
settled-within : (m : Model) → WellFormed m → Conforming m → Joinable m → (s : List ℕ) → Within m s → (n : ℕ) → Within m (settle (urgent_step m) n s).state
settled-within [] well good fit s w n = absurd (omega (arith, well.some))
settled-within (c ∷ cs) well good fit s w n = (our-run-is-a-series c cs well good fit s w n).range

played-within : (m : Model) → WellFormed m → Conforming m → Joinable m → (s : List ℕ) → Within m s → (l : List ℕ) (d : Settling (List ℕ))
    → play m 0 l s ≡ answered d → Within m d.state
played-within [] well good fit s w l d e = absurd (omega (arith, well.some))
played-within (c ∷ cs) well good fit s w l d e = ((list-that-is-a-series c cs well good fit s w l d).0 e).range

module _ (t p : List ℕ) (x : State) (at : Arrived t p x) where
  gives_after : (d : Settling (List ℕ)) → Within (model_of t) d.state → (r : Settled) → SettlingGives d x r → AfterGives d r
  gives_after d w r g =
      let st = at.ready.standing in
      let long : length d.state ≡ x.count = within-length (model_of t) d.state w ∙ sym (count-model t x st) in
      record { verdict = g.verdict; steps = g.steps; resets = g.resets; state = g.state ∙ with-zeros x d.state at.zeros long (count-few t x st) }

  answers-after : (v : Answer (Settling (List ℕ))) → ((d : Settling (List ℕ)) → v ≡ answered d → Within (model_of t) d.state)
      → (r : Result Settled Refusal) → SettleAnswers v x r → AfterAnswers v r
  answers-after (answered d) w (Ok r) g = gives_after d (w d refl) r g
  answers-after (answered d) w (Err q) g = absurd g
  answers-after (refused f) w r g = g

-- ---- a call whose own checks are behind those of the path
module _ (t p : List ℕ) (to : Result State Refusal) (leads : Walks (walked_on t p) to) (f : List ℕ → Answer (Settling (List ℕ))) where
  pub record Refuses (q : Refusal) : Type 0 where
    pub fault : Told
    pub tells : told q ≡ some fault
    pub answer : after_path f (walked_on t p) ≡ refused fault

  nowhere : (q : Refusal) → to ≡ Err q → Refuses q
  nowhere q e = let y = led-nowhere t p to leads q e in record { fault = y.0; tells = y.1; answer = ap (after_path f) y.2 }

  not-there : (x : State) → to ≡ Ok x → (own : Checked) (o : Option Told) → Says own o → ((s : List ℕ) (e : Told) → o ≡ some e → f s ≡ refused e)
      → (q : Refusal) → own ≡ Err q → Refuses q
  not-there x fine own o says first q e =
      let at = arrived t p to leads x fine in
      let z = refused-fault q o (ap says_checked (sym e) ∙ says) in
      record { fault = z.0; tells = z.1; answer = ap (after_path f) at.walked ∙ first at.there z.0 z.2 }

-- ---- by our rule
module _ (t p : List ℕ) (budget : ℕ) (old : List ℕ) (to : Result State Refusal) (leads : Walks (walked_on t p) to) where
  abbrev from : List ℕ → Answer (Settling (List ℕ))
  from s = settle_from (model_of t) budget (length old) s

  own_first : (s : List ℕ) (e : Told) → settle_fault budget (length old) ≡ some e → from s ≡ refused e
  unfolding settle_from
  own_first s e h = ap (λ o. unless o (settle (urgent_step (model_of t)) budget s)) h

  on-path : settle_after_on t p budget old ≡ after_path from (walked_on t p)
  unfolding settle_after_of
  on-path = after_on t p (λ m. settle_from m budget (length old))

  refused-with : (q : Refusal) → Refuses t p to leads from q → SettleAfterCall t p budget old old (Err q)
  refused-with q w =
      let v = on-path ∙ w.answer in
      record {
        answer = subst (λ (u : Answer (Settling (List ℕ))). AfterAnswers u (Err q)) (sym v) w.tells;
        trace = sym (ap (λ u. trace_after u old) v);
      }

  pub settle-nowhere : (q : Refusal) → to ≡ Err q → SettleAfterCall t p budget old old (Err q)
  settle-nowhere q e = refused-with q (nowhere t p to leads from q e)

  module _ (x : State) (fine : to ≡ Ok x) (own : Checked) (says : Says own (settle_fault budget (length old))) where
    pub settle-refuses : (q : Refusal) → own ≡ Err q → SettleAfterCall t p budget old old (Err q)
    settle-refuses q e = refused-with q (not-there t p to leads from x fine own (settle_fault budget (length old)) says own_first q e)

    pub settle-there : Arrived t p x
    settle-there = arrived t p to leads x fine

    module _ (e : own ≡ (Ok tt)) where
      no-fault : settle_fault budget (length old) ≡ none
      no-fault = fine-none (settle_fault budget (length old)) (ap says_checked (sym e) ∙ says)

      pub settle-room : budget ≤ length old
      settle-room = (trace-faultless budget (length old)).0 (or_else_none (budget_fault budget) (trace_fault budget (length old)) no-fault).1

      goes : settle_after_on t p budget old ≡ answered (settle (urgent_step (model_of t)) budget (parts_of x))
      unfolding settle_from
      goes =
          let at = settle-there in
          on-path ∙ ap (after_path from) at.walked ∙ ap (λ o. unless o (settle (urgent_step (model_of t)) budget at.there)) no-fault
          ∙ ap (λ s. answered (settle (urgent_step (model_of t)) budget s)) (sym at.parts)

      pub settle-done : (r : Settled) (new : List ℕ) → SettleGives (model_of t) budget x r → TraceHolds (model_of t) budget x old new
          → SettleAfterCall t p budget old new (Ok r)
      settle-done r new g tr =
          let at = settle-there in
          let k = at.ready in
          let d = settle (urgent_step (model_of t)) budget (parts_of x) in
          let well = well-formed t k.standing.image in
          let w = settled-within (model_of t) well k.conforming k.joinable (parts_of x) k.standing.within budget in
          record {
            answer = subst (λ (u : Answer (Settling (List ℕ))). AfterAnswers u (Ok r)) (sym goes) (gives_after t p x at d w r g);
            trace = tr ∙ sym (ap (λ u. trace_after u old) goes);
          }

-- ---- by a list
module _ (t p l : List ℕ) (to : Result State Refusal) (leads : Walks (walked_on t p) to) where
  abbrev list-from : List ℕ → Answer (Settling (List ℕ))
  list-from s = list_from (model_of t) l s

  abbrev pick : List ℕ → Option Told → Answer (Settling (List ℕ))
  pick s o = elim o as (λ _. Answer (Settling (List ℕ))) [ some t ↦ refused t | none ↦ play (model_of t) 0 l s ]

  list-first : (s : List ℕ) (e : Told) → budget_fault (length l) ≡ some e → list-from s ≡ refused e
  unfolding list_from
  list-first s e h = ap (pick s) h

  list-on-path : settle_list_after_on t p l ≡ after_path list-from (walked_on t p)
  unfolding settle_list_after_of
  list-on-path = after_on t p (λ m. list_from m l)

  list-refused-with : (q : Refusal) → Refuses t p to leads list-from q → SettleListAfterCall t p l (Err q)
  list-refused-with q w =
      record { answer = subst (λ (u : Answer (Settling (List ℕ))). AfterAnswers u (Err q)) (sym (list-on-path ∙ w.answer)) w.tells }

  pub list-nowhere : (q : Refusal) → to ≡ Err q → SettleListAfterCall t p l (Err q)
  list-nowhere q e = list-refused-with q (nowhere t p to leads list-from q e)

  module _ (x : State) (fine : to ≡ Ok x) (own : Checked) (says : Says own (budget_fault (length l))) where
    pub list-refuses : (q : Refusal) → own ≡ Err q → SettleListAfterCall t p l (Err q)
    list-refuses q e = list-refused-with q (not-there t p to leads list-from x fine own (budget_fault (length l)) says list-first q e)

    pub list-there : Arrived t p x
    list-there = arrived t p to leads x fine

    module _ (e : own ≡ (Ok tt)) where
      list-goes : settle_list_after_on t p l ≡ play (model_of t) 0 l (parts_of x)
      unfolding list_from
      list-goes =
          let at = list-there in
          let none = fine-none (budget_fault (length l)) (ap says_checked (sym e) ∙ says) in
          list-on-path ∙ ap (after_path list-from) at.walked ∙ ap (pick at.there) none ∙ ap (play (model_of t) 0 l) (sym at.parts)

      pub list_done : (r : Result Settled Refusal) → SettleAnswers (play (model_of t) 0 l (parts_of x)) x r → SettleListAfterCall t p l r
      list_done r g =
          let at = list-there in
          let k = at.ready in
          let v = play (model_of t) 0 l (parts_of x) in
          let w : (d : Settling (List ℕ)) → v ≡ answered d → Within (model_of t) d.state =
          played-within (model_of t) (well-formed t k.standing.image) k.conforming k.joinable (parts_of x) k.standing.within l in
          record { answer = subst (λ (u : Answer (Settling (List ℕ))). AfterAnswers u r) (sym list-goes) (answers-after t p x at v w r g) }
