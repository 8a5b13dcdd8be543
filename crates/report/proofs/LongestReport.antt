-- The longest report is reached: an input for which the program prints as many bytes as `report` asks of a buffer.
use mathlib.Core.Path.{◌≡◌, refl, ◌∙◌, ap}
use mathlib.Core.Bool.{false}
use mathlib.Core.Option.{none, some}
use mathlib.Core.List.{List, ◌∷◌, ◌++◌}
use Prim.Native.Nat.{ℕ, zero, suc, ◌+◌, ◌*◌, ◌-◌}
use native.Mathlib.Omega.{arith}
use lib.Bits.{or_self, or_zero_r}
use lib.ListN.{length, replicate, length-append}
use Rattle.laws.specs.Sets.{◌∪◌}
use Rattle.laws.specs.Fold as Fold
use Rattle.answer.specs.Limits.{max_budget}
use Rattle.answer.specs.Told.{answered}
use Rattle.model.specs.Model.{Model}
use Rattle.model.specs.Text.{tab, decimal, text_of}
use Rattle.iosa.specs.Checks.{confluent_of}
use Rattle.model.specs.Reading.{read_of}
use Rattle.request.specs.Kept.{there}
use Rattle.iosa.specs.Step.{Went, urgent_step, lowest}
use Rattle.iosa.specs.Settle.{settle, begin_fault, budget_fault, trace_fault, settle_of}
use Rattle.iosa.specs.Orders.{Settling}
use Rattle.answering.specs.Report.{request_text, step_line, step_lines, last_line, answer_lines, request_of, report_of}
use Rattle.answering.specs.Examples.{reply}
use Rattle.iosa.proofs.Settling.Rule.{lowest-some}
use Rattle.tell.specs.Tell.{tail_of}
use Rattle.tell.proofs.TellLaws.{step-parts}
use Rattle.steplines.specs.Run.{step_bytes, last_bytes, most_bytes}
use Rattle.report.specs.Longest.{all_clocks, loud, still, longest_model, all_wide, longest_request, longest_input}
use Rattle.report.proofs.ReportLaws.{report-model}

-- ---- of any model: a step that leads back, taken again and again
-- the bytes of the numbers k, k + 1, .., of n places
unfoldable count_bytes : ℕ → ℕ → ℕ
count_bytes k n = Fold.sum (Fold.tab (λ j. length (decimal j)) k n)

module _ (m : Model) (s : List ℕ) (a r : ℕ) where
  abbrev back : Went (List ℕ)
  back = record { action = a; gone = record { resets = r; after = s } }

  abbrev resets_in : ℕ → ℕ
  resets_in zero = 0
  resets_in (suc n) = r

  abbrev looped : ℕ → Settling (List ℕ)
  looped n = record { stable = false; steps = n; resets = resets_in n; trace = replicate n a; state = s }

  -- what a step line has beside its count
  abbrev beside : ℕ
  beside = 6 + length (decimal a) + length (tail_of r s)

  resets-again : (n : ℕ) → r ∪ resets_in n ≡ r
  resets-again zero = or_zero_r r
  resets-again (suc n) = or_self r

  module _ (e : lowest (urgent_step m) s ≡ some back) where
    settle-loops : (n : ℕ) → settle (urgent_step m) n s ≡ looped n
    unfolding settle
    settle-loops zero = rw (e, settle)
    settle-loops (suc n) = rw (e, settle) (rw (settle-loops n, resets-again n))

    lines-length : (k n : ℕ) → length (step_lines m k s (replicate n a)) ≡ count_bytes k n + beside * n
    unfolding step_lines count_bytes
    lines-length k zero = omega arith
    lines-length k (suc n) =
        rw ((lowest-some (urgent_step m) s back e).0, step_lines) (omega (
          arith,
          length-append (step_line k a back.gone) (step_lines m (suc k) s (replicate n a)),
          ap length (step-parts k a back.gone),
          length-append (decimal k) ((tab ∷ decimal a) ++ tail_of r s),
          length-append (decimal a) (tail_of r s),
          lines-length (suc k) n,
        ))

    report-length : (n : ℕ) → settle_of m s n n ≡ answered (settle (urgent_step m) n s) → length (answer_lines m s (settle_of m s n n))
        ≡ count_bytes 1 n + beside * n + length (last_line (looped n))
    unfolding answer_lines
    report-length n f =
        rw (f, settle-loops n) (length-append (step_lines m 1 s (replicate n a)) (last_line (looped n)) ∙ rw (lines-length 1 n))

-- ---- what antt computes of the input
requested : request_of longest_input ≡ there longest_request (text_of longest_model)
unfolding reply request_text longest_input longest_model loud still
requested = refl

read : read_of (text_of longest_model) ≡ answered longest_model
unfolding reply longest_model loud still
read = refl

confluent : confluent_of longest_model ≡ none
unfolding reply longest_model loud still
confluent = refl

begins : begin_fault longest_model all_wide ≡ none
unfolding reply longest_model loud still
begins = refl

leads-back : lowest (urgent_step longest_model) all_wide ≡ some (back longest_model all_wide 10 all_clocks)
unfolding reply longest_model loud still
leads-back = refl

-- four digits each, of which 9, 99 and 999 counts lack one
counts : count_bytes 1 max_budget ≡ 4 * max_budget - (9 + 99 + 999)
unfolding reply count_bytes
counts = refl

line : beside longest_model all_wide 10 all_clocks ≡ step_bytes - 4
unfolding reply tail_of
line = refl

last : length (last_line (looped longest_model all_wide 10 all_clocks max_budget)) ≡ last_bytes
unfolding reply
last = refl

-- ---- the report
answers : settle_of longest_model all_wide max_budget max_budget ≡ answered (settle (urgent_step longest_model) max_budget all_wide)
unfolding settle_of budget_fault trace_fault
answers = rw (confluent, begins, settle_of)

pub longest-reached : length (report_of longest_input) ≡ most_bytes
longest-reached =
    ap length (report-model longest_input (text_of longest_model) longest_request requested longest_model read)
    ∙ report-length longest_model all_wide 10 all_clocks leads-back max_budget answers ∙ rw (counts, line, last)
