-- What a run prints, and how long a report can be.
use Rattle.std.specs.Prelude.{List, ◌++◌, ℕ, ◌+◌, ◌*◌, ◌-◌}
use Rattle.answer.specs.Limits.{max_components, max_budget}
use Rattle.model.specs.Model.{Model}
use Rattle.iosa.specs.Step.{urgent_step}
use Rattle.iosa.specs.Settle.{settle}
use Rattle.iosa.specs.Orders.{Settling}
use Rattle.answering.specs.Report.{step_lines, last_line}
use Rattle.measure.specs.Measure.{set_bytes}

-- the digits of the largest number of a state: with max_states, what the report's widths change by
abbrev pub state_digits : ℕ
state_digits = 3

-- the widest composed state: each number behind a tab or a comma
abbrev pub state_bytes : ℕ
state_bytes = (1 + state_digits) * max_components

-- the widest step line: `step`, a count of four digits, an action of two, all clocks, a state, each behind a tab, and LF
abbrev pub step_bytes : ℕ
step_bytes = 4 + (1 + 4) + (1 + 2) + (1 + set_bytes) + state_bytes + 1

-- the widest last line: `unsettled`, and as many steps
abbrev pub last_bytes : ℕ
last_bytes = 9 + (1 + 4) + (1 + set_bytes) + state_bytes + 1

-- the longest report there can be: a line for each step of the largest budget, of whose counts 9, 99 and 999 lack a digit each, and the last line
abbrev pub most_bytes : ℕ
most_bytes = step_bytes * max_budget - (9 + 99 + 999) + last_bytes

-- the lines of a settling from s
unfoldable pub lines_of : Model → List ℕ → Settling (List ℕ) → List ℕ
lines_of m s d = step_lines m 1 s d.trace ++ last_line d

unfoldable pub run_text : Model → List ℕ → ℕ → List ℕ
run_text m s budget = lines_of m s (settle (urgent_step m) budget s)
