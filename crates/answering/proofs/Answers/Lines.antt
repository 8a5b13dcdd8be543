-- The step lines of a report are as many as its steps, and each is of the product's row: the lines do not end before the run does.
use mathlib.Core.Path.{◌≡◌, refl, sym, ◌∙◌, ap}
use mathlib.Core.Logic.{◌↔◌}
use mathlib.Core.Option.{none, some}
use mathlib.Core.List.{List, [], ◌∷◌, ◌++◌}
use Prim.Native.Nat.{ℕ, suc}
use lib.ListN.{length}
use Rattle.answer.specs.Told.{Answer}
use Rattle.model.specs.Model.{Comp}
use Rattle.model.specs.WellFormed.{WellFormed}
use Rattle.iosa.specs.Automaton.{Conforming, Joinable}
use Rattle.iosa.specs.Product.{product, Within}
use Rattle.iosa.specs.Step.{urgent_step}
use Rattle.iosa.specs.Stepped.{Gone}
use Rattle.iosa.specs.Orders.{OurRun, Settling}
use Rattle.iosa.specs.InOrder.{refuses, passes, gives}
use Rattle.answering.specs.Answers.{SettleAnswer}
use Rattle.answering.specs.Report.{step_line, step_lines, last_line, answer_lines}
use Rattle.answering.specs.Printed.{lined, StepLines, no_step, one_step_line, RunPrinted, AnswerPrinted}
use Rattle.iosa.proofs.Settling.Descent.{Run, stop, then}
use Rattle.iosa.proofs.Settling.Steps.{step-is-a-row, steps-exactly}
use Rattle.iosa.proofs.Thesis.Proposition41.{conforming-definition}
use Rattle.iosa.proofs.Settling.SeriesAndRuns.{lowest-is-a-series, series-is-a-run}

-- as many lines as actions
pub as-many-lines : {c : Comp} {cs : List Comp} {n : ℕ} {s l : List ℕ} {ls : List (List ℕ)} → StepLines c cs n s l ls → length ls ≡ length l
as-many-lines no_step = refl
as-many-lines (one_step_line p more) = ap suc (as-many-lines more)

module _ (c : Comp) (cs : List Comp) (well : WellFormed (c ∷ cs)) (conf : Conforming (c ∷ cs)) (join : Joinable (c ∷ cs)) where
  -- the lines of a run
  run-lines : (n : ℕ) {s t l : List ℕ} {R : ℕ} → Within (c ∷ cs) s → Run (urgent_step (c ∷ cs)) s l R t → (ls : List (List ℕ)) × StepLines c cs n s l ls
  run-lines n w stop = ([], no_step)
  run-lines n w (then {s = s} a g e more) =
      let p = step-is-a-row c cs well conf join s w a g e in
      let q = run-lines (suc n) p.1 more in
      (step_line n a g ∷ q.0, one_step_line (record { row = p.0; range = p.1 }) q.1)

  -- whatever lines the actions have, they are those that are computed
  lines-computed : (n : ℕ) {s l : List ℕ} {ls : List (List ℕ)} → Within (c ∷ cs) s → StepLines c cs n s l ls → step_lines (c ∷ cs) n s l ≡ lined ls
  unfolding step_lines
  lines-computed n w no_step = refl
  lines-computed n {s} w (one_step_line {a = a} {R = R} {t = t} {l = l} p more) =
      let g : Gone (List ℕ) = record { resets = R; after = t } in
      let e = (steps-exactly c cs well conf join s w a g).1 (p.row, p.range) in
      ap (λ o. elim o as (λ _. List ℕ) [ none ↦ [] | some h ↦ step_line n a h ++ step_lines (c ∷ cs) (suc n) h.after l ]) e
      ∙ ap (λ b. step_line n a g ++ b) (lines-computed (suc n) p.range more)

  module _ (s : List ℕ) (w : Within (c ∷ cs) s) where
    -- the step lines of a settling are as many as its steps, and each is of the product's row
    pub printed-run : (budget : ℕ) (d : Settling (List ℕ)) → OurRun c cs s budget d → RunPrinted c cs s d (step_lines (c ∷ cs) 1 s d.trace ++ last_line d)
    printed-run budget d r =
        let p = series-is-a-run c cs well conf join s w refl (lowest-is-a-series (product c cs) r.series) in
        let q = run-lines 1 w p.1 in
        record { lines = q.0; steps = q.1; count = as-many-lines q.1 ∙ sym r.steps; bytes = ap (λ b. b ++ last_line d) (lines-computed 1 w q.1) }

    run-printed : (d : Settling (List ℕ)) (out : List ℕ) → RunPrinted c cs s d out → step_lines (c ∷ cs) 1 s d.trace ++ last_line d ≡ out
    run-printed d out r = ap (λ b. b ++ last_line d) (lines-computed 1 w r.steps) ∙ sym r.bytes

-- what is printed for what settling answers
module _ (c : Comp) (cs : List Comp) (well : WellFormed (c ∷ cs)) (s : List ℕ) (budget trace : ℕ) where
  pub answer-printed : {a : Answer (Settling (List ℕ))} → SettleAnswer c cs s budget trace a → (out : List ℕ)
      → (answer_lines (c ∷ cs) s a ≡ out) ↔ AnswerPrinted c cs s a out
  unfolding answer_lines
  answer-printed (refuses r) out = (sym, sym)
  answer-printed (passes k (refuses r)) out = (sym, sym)
  answer-printed (passes k (passes al (refuses r))) out = (sym, sym)
  answer-printed (passes k (passes al (passes w (refuses r)))) out = (sym, sym)
  answer-printed (passes k (passes al (passes w (passes p (refuses r))))) out = (sym, sym)
  answer-printed (passes k (passes al (passes w (passes p (passes b (refuses r)))))) out = (sym, sym)
  answer-printed (passes k (passes al (passes w (passes p (passes b (passes t (gives {x = d} r))))))) out = (
    λ e. rw (← e) (printed-run c cs well ((conforming-definition (c ∷ cs) well).1 k.0) k.1 s w budget d r.run),
    run-printed c cs well ((conforming-definition (c ∷ cs) well).1 k.0) k.1 s w d out,
  )
