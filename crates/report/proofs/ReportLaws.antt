-- The report by its cases: 9, a text that is refused, and a model that was read.
use mathlib.Core.Path.{◌≡◌, refl, sym, ◌∙◌, ap}
use mathlib.Core.Bool.{Bool, true, false}
use mathlib.Core.Option.{Option, none, some}
use mathlib.Core.List.{List, [], ◌∷◌}
use Prim.Native.Nat.{ℕ}
use native.Mathlib.Omega.{arith}
use Rattle.laws.specs.Search.{or_else}
use Rattle.laws.proofs.SearchLaws.{or_else_none}
use Rattle.answer.specs.Told.{Told, tell, told, Answer, answered, refused, as_refused, says_checked}
use Rattle.answer.specs.State.{parts_of}
use Rattle.answer.specs.declared.State.{State}
use Rattle.answer.specs.Told.{Checked}
use Rattle.std.specs.Prelude.{Ok, Err}
use Rattle.answer.specs.declared.Refusal.{Refusal}
use Rattle.model.specs.Model.{Model}
use Rattle.iosa.specs.Checks.{confluent_of}
use Rattle.model.specs.WellFormed.{WellComp, WellFormed}
use Rattle.model.specs.Reading.{read_of}
use Rattle.iosa.specs.Step.{in_range, state_fault, unless}
use Rattle.iosa.specs.Settle.{begin_fault, budget_fault, trace_fault, settle_of}
use Rattle.answering.specs.Report.{Request, request_of, refused_line, answer_lines, run_lines, report_of}
use Rattle.iosa.proofs.Settling.Each.{All, each_all}
use Rattle.layout.specs.Image.{model_of}
use Rattle.parts.specs.Faults.{Says}
use Rattle.entry.specs.Entry.{entry_fault}
use Rattle.request.specs.Kept.{there, held}
use Rattle.request.proofs.HeldLaws.{Few, held-in-range, held_same}
use Rattle.tell.specs.Tell.{refused_text}
use Rattle.tell.proofs.TellLaws.{told_text}

-- ---- "9 comes first"
pub report-9 : (bs : List ℕ) → request_of bs ≡ none → report_of bs ≡ refused_line (tell 9 (0 ∷ []))
unfolding report_of
report-9 bs e = rw (e, report_of)

module _ (bs rest : List ℕ) (q : Request) (e : request_of bs ≡ there q rest) where
  pub report-text : (t : Told) → read_of rest ≡ refused t → report_of bs ≡ refused_line t
  unfolding report_of run_lines
  report-text t f = rw (e, f, report_of)

  pub report-model : (m : Model) → read_of rest ≡ answered m → report_of bs ≡ answer_lines m q.state (settle_of m q.state q.budget q.budget)
  unfolding report_of run_lines
  report-model m f = rw (e, f, report_of)

-- ---- the state as it is kept gives the same lines
first : Option Told → Told
first none = tell 21 (0 ∷ [])
first (some t) = t

is_out_of_range : (m : Model) (s : List ℕ) (n : ℕ) → in_range m s ≡ false → answer_lines m s (settle_of m s n n) ≡ refused_line (first (confluent_of m))
unfolding answer_lines settle_of begin_fault state_fault first
is_out_of_range m s n f = go (confluent_of m) refl
  where
    go : (o : Option Told) → confluent_of m ≡ o → answer_lines m s (settle_of m s n n) ≡ refused_line (first o)
    go none e = rw (e, f, settle_of)
    go (some t) e = rw (e, settle_of)

few-states : (m : Model) → WellFormed m → Few m
unfolding Few
few-states m w = few m (each_all WellComp m w.each)
  where
    few : (m : Model) → All WellComp m → Few m
    few [] al = tt
    few (c ∷ cs) al = (al.0.states, few cs al.1)

pub kept-answers : (m : Model) → WellFormed m → (ns : List ℕ) (n : ℕ)
    → answer_lines m (parts_of (held ns)) (settle_of m (parts_of (held ns)) n n) ≡ answer_lines m ns (settle_of m ns n n)
kept-answers m w ns n = go (in_range m ns) refl
  where
    go : (b : Bool) → in_range m ns ≡ b → answer_lines m (parts_of (held ns)) (settle_of m (parts_of (held ns)) n n) ≡ answer_lines m ns (settle_of m ns n n)
    go true e = ap (λ s. answer_lines m s (settle_of m s n n)) (held_same m (few-states m w) w.components ns e)
    go false e =
        is_out_of_range m (parts_of (held ns)) n (held-in-range m (few-states m w) w.components ns ∙ e) ∙ sym (is_out_of_range m ns n e)

-- ---- what the check says before settling begins
refusal-told : (f : Refusal) (o : Option Told)
    → ◌≡◌ {A = Option (Answer (Unit {0}))} (as_refused (told f)) (some (unless o tt)) → (t : Told) × (o ≡ some t) × (told f ≡ some t)
refusal-told f o e = go (told f) o refl e
  where
    go : (p o : Option Told) → told f ≡ p → ◌≡◌ {A = Option (Answer (Unit {0}))} (as_refused p) (some (unless o tt)) → (t : Told) × (o ≡ some t)
        × (told f ≡ some t)
    go none none h e = absurd (let z : ◌≡◌ {A = ℕ} 0 1 = cc in omega arith)
    go none (some u) h e = absurd (let z : ◌≡◌ {A = ℕ} 0 1 = cc in omega arith)
    go (some t) none h e = absurd (let z : ◌≡◌ {A = ℕ} 0 1 = cc in omega arith)
    go (some t) (some u) h e = let w : t ≡ u = cc in (u, refl, h ∙ ap some w)

fine-told : (o : Option Told) → ◌≡◌ {A = Option (Answer (Unit {0}))} (some (answered tt)) (some (unless o tt)) → o ≡ none
fine-told none e = refl
fine-told (some t) e = absurd (let z : ◌≡◌ {A = ℕ} 0 1 = cc in omega arith)

or-more : (o p q : Option Told) (t : Told) → or_else o p ≡ some t → or_else o (or_else p q) ≡ some t
or-more none p q t e = rw e
or-more (some u) p q t e = e

refused-first : (m : Model) (s : List ℕ) (n : ℕ) (t : Told) → or_else (confluent_of m) (begin_fault m s) ≡ some t
    → refused_line t ≡ answer_lines m s (settle_of m s n n)
unfolding answer_lines settle_of
refused-first m s n t e = rw (or-more (confluent_of m) (begin_fault m s) (or_else (budget_fault n) (trace_fault n n)) t e, settle_of)

module _ (t : List ℕ) (x : State) (r : Checked) (here : Says r (entry_fault x (model_of t))) where
  abbrev m : Model
  m = model_of t

  pub checked-fine : r ≡ (Ok tt) → (confluent_of m ≡ none) × (begin_fault m (parts_of x) ≡ none)
  unfolding says_checked
  checked-fine f = or_else_none (confluent_of m) (begin_fault m (parts_of x)) (fine-told (entry_fault x m) (ap says_checked (sym f) ∙ here))

  pub checked_refused : (f : Refusal) → r ≡ Err f → (n : ℕ) → refused_text f ≡ answer_lines m (parts_of x) (settle_of m (parts_of x) n n)
  unfolding says_checked
  checked_refused f g n =
      let p = refusal-told f (entry_fault x m) (ap says_checked (sym g) ∙ here) in
      told_text f p.0 p.2 ∙ refused-first m (parts_of x) n p.0 p.1
