-- What the call `timed_step` answers (01, "The timed step"; "Refusal numbers": as `accept`, then 21, 27, 28, 29, 30), and what the lent values are then.
use Rattle.std.specs.Prelude.{List, ℕ, ℤ, Result}
use Rattle.answer.specs.State.{parts_of}
use Rattle.answer.specs.declared.State.{State}
use Rattle.answer.specs.declared.Timed.{Timed}
use Rattle.answer.specs.declared.Refusal.{Refusal}
use Rattle.timing.specs.Timed.{timed_of}
use Rattle.table.specs.OnTable.{on_table}
use Rattle.firing.specs.Shots.{TimingAnswers}

-- t is the table and x the state; was are the values before the call, vs those after it
abbrev pub TimedStep : List ℕ → State → List ℤ → Result Timed Refusal → List ℤ → Type 0
TimedStep t x was r vs = TimingAnswers (on_table t (λ m. timed_of m (parts_of x) was)) x was r vs
