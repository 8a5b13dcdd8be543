-- What the call `simulate_drawn` answers (02, 4/13 and 13/13; "after the table's, 22 .., 28 ..", 49 "placed as 40", "then round by round 30, 42" and 50
-- "placed as 41"), and what the 64 lent values are then.
use Rattle.std.specs.Prelude.{List, ℕ, ℤ, Result}
use Rattle.answer.specs.Told.{Answer}
use Rattle.answer.specs.declared.Simulated.{Simulated}
use Rattle.answer.specs.declared.Refusal.{Refusal}
use Rattle.table.specs.OnTable.{on_table}
use Rattle.simulation.specs.Call.{Simulating, SimulationAnswers}
use Rattle.drawing.specs.Call.{simulate_drawn}

-- t is the table, laws the file of distributions, numbers the lent numbers, n the later rounds asked for, was the lent values before the call
abbrev pub simulate_drawn_on : List ℕ → List ℕ → List ℕ → ℕ → List ℤ → Answer Simulating
simulate_drawn_on t laws numbers n was = on_table t (λ m. simulate_drawn m laws numbers n was)

-- r is the answer, vs the lent values after the call
abbrev pub SimulateDrawnCall : List ℕ → List ℕ → List ℕ → ℕ → List ℤ → Result Simulated Refusal → List ℤ → Type 0
SimulateDrawnCall t laws numbers n was r vs = SimulationAnswers (simulate_drawn_on t laws numbers n was) was r vs
