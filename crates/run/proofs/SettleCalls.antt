-- Settling's answer, branch by branch, is what its call promises, and so is the trace.
use mathlib.Core.Path.{◌≡◌, sym, ◌∙◌, ap}
use mathlib.Core.Option.{none, some}
use mathlib.Core.List.{List, [], ◌∷◌}
use Prim.Native.Nat.{ℕ, ◌≤◌, ◌<◌}
use lib.ListN.{length}
use Rattle.answer.specs.Limits.{max_budget}
use Rattle.answer.specs.Told.{Told, tell, told, says_checked, Answer, answered, refused}
use Rattle.answer.specs.Told.{Checked}
use Rattle.std.specs.Prelude.{Result, Ok, Err}
use Rattle.answer.specs.declared.Refusal.{Refusal}
use Rattle.answer.specs.declared.State.{State}
use Rattle.answer.specs.declared.Settled.{Settled}
use Rattle.answer.specs.State.{parts_of}
use Rattle.model.specs.Model.{Model}
use Rattle.iosa.specs.Step.{urgent_step}
use Rattle.iosa.specs.Settle.{settle, play, budget_fault, settle_of, settle_list_of}
use Rattle.iosa.specs.Orders.{Settling}
use Rattle.layout.specs.Image.{model_of}
use Rattle.settling.specs.Gives.{SettleAnswers, SettleGives, TraceHolds}
use Rattle.table.specs.OnTable.{on_table, check_on}
use Rattle.table.proofs.OnTableLaws.{on-image}
use Rattle.table.proofs.CheckedLaws.{call-refuses}
use Rattle.entry.specs.Entry.{entry_fault}
use Rattle.run.specs.Refusals.{whole_at, bytes_at}
use Rattle.run.specs.Calls.{SettleCall, SettleListCall, trace_after}
use Rattle.run.proofs.Answers.{or-first, settle-answers, start_fault, start-over, start_right}
use Rattle.run.proofs.Answers.{settle-refused, settle-short, settle_goes, list-refused, list-goes}
use Rattle.run.proofs.Ready.{Passed, passed, refused-by}

-- ---- both calls refuse whatever stands in the way of the first step
module _ (x : State) where
  pub settle-follows : (budget room : ℕ) (m : Model) (f : Told) → start_fault m (parts_of x) budget ≡ some f → settle_of m (parts_of x) budget room ≡ refused f
  settle-follows budget room m f e = settle-refused m (parts_of x) budget room f e

  pub list-follows : (l : List ℕ) (m : Model) (f : Told) → start_fault m (parts_of x) (length l) ≡ some f → settle_list_of m (parts_of x) l ≡ refused f
  list-follows l m f e = list-refused m (parts_of x) l f e

module _ (t : List ℕ) (x : State) where
  -- a call that refuses with q
  pub record Refuses (call : Model → Answer (Settling (List ℕ))) (q : Refusal) : Type 0 where
    pub fault : Told
    pub tells : told q ≡ some fault
    pub answer : on_table t call ≡ refused fault

  refused-with : (call : Model → Answer (Settling (List ℕ))) (q : Refusal) → Refuses call q → SettleAnswers (on_table t call) x (Err q)
  refused-with call q f = settle-answers (on_table t call) (refused f.fault) x (Err q) f.answer f.tells

  -- ---- before the first step, by our rule and by a list alike: what stands in the way of beginning, 22
  module _ (call : Model → Answer (Settling (List ℕ))) (steps : ℕ) (follows : (m : Model) (f : Told) → start_fault m (parts_of x) steps ≡ some f
      → call m ≡ refused f)
      (ch : Checked) (says : says_checked ch ≡ some (check_on t (entry_fault x))) where
    pub by-check : (q : Refusal) → ch ≡ Err q → Refuses call q
    by-check q is =
        let p = refused-by t (entry_fault x) ch says q is in
        record {
          fault = p.0;
          tells = p.1;
          answer = call-refuses t (entry_fault x) call (λ m f e. follows m f (or-first (entry_fault x m) (budget_fault steps) f e)) p.0 p.2;
        }

    pub by-steps : ch ≡ (Ok tt) → max_budget < steps → (q : Refusal) → q ≡ whole_at 22 → Refuses call q
    unfolding told
    by-steps fine h q k =
        let ok = passed t (entry_fault x) ch says fine in
        record {
          fault = tell 22 (0 ∷ []);
          tells = ap told k;
          answer = on-image t call ok.image ∙ follows (model_of t) (tell 22 (0 ∷ [])) (start-over (model_of t) (parts_of x) ok.none steps h);
        }

  -- ---- by our rule
  module _ (budget : ℕ) (old : List ℕ) where
    abbrev call : Model → Answer (Settling (List ℕ))
    call m = settle_of m (parts_of x) budget (length old)

    pub settle-refuses : (q : Refusal) → Refuses call q → SettleCall t x budget old old (Err q)
    settle-refuses q f = record { answer = refused-with call q f; trace = sym (ap (λ v. trace_after v old) f.answer) }

    module _ (ok : Passed t (entry_fault x)) (b : budget ≤ max_budget) where
      starts : start_fault (model_of t) (parts_of x) budget ≡ none
      starts = start_right (model_of t) (parts_of x) ok.none budget b

      on : on_table t call ≡ call (model_of t)
      on = on-image t call ok.image

      pub settle-is-short : length old < budget → (q : Refusal) → q ≡ bytes_at budget → SettleCall t x budget old old (Err q)
      unfolding told
      settle-is-short s q k =
          settle-refuses q (record {
            fault = tell 24 (budget ∷ []);
            tells = ap told k;
            answer = on ∙ settle-short (model_of t) (parts_of x) budget (length old) starts s;
          })

      pub settle-is-done : budget ≤ length old → (r : Settled) (new : List ℕ) → SettleGives (model_of t) budget x r → TraceHolds (model_of t) budget x old new
          → SettleCall t x budget old new (Ok r)
      settle-is-done s r new g tr =
          let e = on ∙ settle_goes (model_of t) (parts_of x) budget (length old) starts s in
          record {
            answer = settle-answers (on_table t call) (answered (settle (urgent_step (model_of t)) budget (parts_of x))) x (Ok r) e g;
            trace = tr ∙ sym (ap (λ v. trace_after v old) e);
          }

  -- ---- by a list
  module _ (l : List ℕ) where
    abbrev play-call : Model → Answer (Settling (List ℕ))
    play-call m = settle_list_of m (parts_of x) l

    pub list-refuses : (q : Refusal) → Refuses play-call q → SettleListCall t x l (Err q)
    list-refuses q f = record { answer = refused-with play-call q f }

    pub list-is-played : Passed t (entry_fault x) → (r : Result Settled Refusal) → length l ≤ max_budget
        → SettleAnswers (play (model_of t) 0 l (parts_of x)) x r → SettleListCall t x l r
    list-is-played ok r b g =
        let e = on-image t play-call ok.image ∙ list-goes (model_of t) (parts_of x) l (start_right (model_of t) (parts_of x) ok.none (length l) b) in
        record { answer = settle-answers (on_table t play-call) (play (model_of t) 0 l (parts_of x)) x r e g }
