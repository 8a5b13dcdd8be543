-- What the program `settle` prints (01, "The program and its example").
use Rattle.std.proofs.Math.Option.{Option, none, some}
use Rattle.std.specs.Prelude.{Bool, true, false, cond, List, [], ◌∷◌, ◌++◌, ℕ, zero, suc, ◌+◌, ◌-◌, length, ltb}
use Rattle.laws.specs.Sets.{◌∪◌}
use Rattle.answer.specs.Limits.{max_request}
use Rattle.answer.specs.Told.{Told, tell, Answer, answered, refused}
use Rattle.model.specs.Model.{Model}
use Rattle.model.specs.Text.{tab, lf, decimal, joined, set_field, fields_after}
use Rattle.model.specs.Reading.{Got, Scan, is, stops, got, then, exactly, the_byte, number, numbers, field, read_of}
use Rattle.model.specs.Line.{Fits, ListFits}
use Rattle.iosa.specs.Step.{urgent_step}
use Rattle.iosa.specs.Stepped.{Gone}
use Rattle.iosa.specs.Settle.{settle_of}
use Rattle.iosa.specs.Orders.{Settling}

-- ---- the request line: "`from`, tab, state numbers joined by commas, tab, budget"
pub record Request : Type 0 where
  pub state : List ℕ
  pub budget : ℕ

-- `from`
abbrev pub from_word : List ℕ
from_word = 102 ∷ 114 ∷ 111 ∷ 109 ∷ []

unfoldable pub request_line : List ℕ → Scan Request
request_line bs =
    then (exactly from_word bs) (λ _ cs.
    then (field numbers cs) (λ s ds.
    then (field number ds) (λ n es.
    then (the_byte lf es) (λ _ fs.
    got (record { state = s; budget = n }) fs))))

-- a request as it is printed, with its LF
unfoldable pub request_text : Request → List ℕ
request_text q = from_word ++ fields_after (joined q.state ∷ decimal q.budget ∷ [])

-- each of its numbers has 1 to 5 digits
abbrev pub RequestFits : Request → Type 0
RequestFits q = ListFits q.state × Fits q.budget

-- 9 "request line of the program of wrong shape, or over 256 bytes with its LF"
abbrev pub short_enough : List ℕ → Scan Request → Option (Got Request)
short_enough bs (stops cs) = none
short_enough bs (is g) = cond (ltb max_request (length bs - length g.rest)) none (some g)

unfoldable pub request_of : List ℕ → Option (Got Request)
request_of bs = short_enough bs (request_line bs)

-- ---- the lines printed
-- `refused`, `step`, `stable`, `unsettled`
abbrev pub refused_word : List ℕ
refused_word = 114 ∷ 101 ∷ 102 ∷ 117 ∷ 115 ∷ 101 ∷ 100 ∷ []

abbrev pub step_word : List ℕ
step_word = 115 ∷ 116 ∷ 101 ∷ 112 ∷ []

abbrev pub stable_word : List ℕ
stable_word = 115 ∷ 116 ∷ 97 ∷ 98 ∷ 108 ∷ 101 ∷ []

abbrev pub unsettled_word : List ℕ
unsettled_word = 117 ∷ 110 ∷ 115 ∷ 101 ∷ 116 ∷ 116 ∷ 108 ∷ 101 ∷ 100 ∷ []

-- "A refusal prints one line only: `refused`, number, place numbers joined by commas"
unfoldable pub refused_line : Told → List ℕ
refused_line t = refused_word ++ fields_after (decimal t.number ∷ joined t.place ∷ [])

-- "Step lines: `step`, count, action, resets, state after"
unfoldable pub step_line : ℕ → ℕ → Gone (List ℕ) → List ℕ
step_line n a g = step_word ++ fields_after (decimal n ∷ decimal a ∷ set_field g.resets ∷ joined g.after ∷ [])

-- the steps of a trace from s, counted from n on
unfoldable pub step_lines : Model → ℕ → List ℕ → List ℕ → List ℕ
step_lines m n s [] = []
step_lines m n s (a ∷ l) = elim (urgent_step m s a) [ none ↦ [] | some g ↦ step_line n a g ++ step_lines m (suc n) g.after l ]

-- "Last line: `stable` or `unsettled`, steps, clocks reset, state"
unfoldable pub last_line : Settling (List ℕ) → List ℕ
last_line d = cond d.stable stable_word unsettled_word ++ fields_after (decimal d.steps ∷ set_field d.resets ∷ joined d.state ∷ [])

unfoldable pub answer_lines : Model → List ℕ → Answer (Settling (List ℕ)) → List ℕ
answer_lines m s (refused t) = refused_line t
answer_lines m s (answered d) = step_lines m 1 s d.trace ++ last_line d

-- the request answered for a model that was read; the trace is as long as the budget
unfoldable pub run_lines : Request → Answer Model → List ℕ
run_lines r (refused t) = refused_line t
run_lines r (answered m) = answer_lines m r.state (settle_of m r.state r.budget r.budget)

-- "9 comes first; lines are counted from the model's first"
unfoldable pub report_of : List ℕ → List ℕ
report_of bs = elim (request_of bs) [ none ↦ refused_line (tell 9 (0 ∷ [])) | some g ↦ run_lines g.value (read_of g.rest) ]
