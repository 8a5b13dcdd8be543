-- Once settling may begin: 22, and else the run.
use mathlib.Core.Path.{◌≡◌, refl, ap}
use mathlib.Core.Option.{none}
use mathlib.Core.List.{List, [], ◌∷◌}
use Prim.Native.Nat.{ℕ, ◌≤◌, ◌<◌}
use native.Mathlib.Nat.{le_refl}
use borrow.Author.Tests.{lt-ltb}
use Rattle.answer.specs.Limits.{max_budget}
use Rattle.answer.specs.Told.{tell}
use Rattle.model.specs.Model.{Model}
use Rattle.iosa.specs.Checks.{confluent_of}
use Rattle.iosa.specs.Step.{urgent_step}
use Rattle.iosa.specs.Settle.{begin_fault, budget_fault, settle_of, settle}
use Rattle.answering.specs.Report.{refused_line, answer_lines}
use Rattle.iosa.proofs.Settling.Called.{begin-faultless, settle-answers-exactly}
use Rattle.answer.specs.declared.Place.TheVariants.{Whole}
use Rattle.tell.specs.Tell.{refused_text}
use Rattle.steplines.specs.Run.{lines_of, run_text}

pub whole-text : (n : ℕ) → refused_text (record { number = n; place = Whole }) ≡ refused_line (tell n (0 ∷ []))
unfolding refused_text
whole-text n = refl

module _ (m : Model) (s : List ℕ) (n : ℕ) (e : confluent_of m ≡ none) (b : begin_fault m s ≡ none) where
  pub answer-22 : max_budget < n → answer_lines m s (settle_of m s n n) ≡ refused_line (tell 22 (0 ∷ []))
  unfolding answer_lines settle_of budget_fault
  answer-22 h = rw (e, b, lt-ltb max_budget n h, settle_of, budget_fault)

  pub answer-run : n ≤ max_budget → answer_lines m s (settle_of m s n n) ≡ run_text m s n
  unfolding answer_lines lines_of run_text
  answer-run h =
      ap (answer_lines m s) ((settle-answers-exactly m s n n (settle (urgent_step m) n s)).1 (e, (begin-faultless m s).0 b, h, le_refl n, refl))
