-- What the call `simulate` answers (02, 4/13; "after the table's, 22 .., 28 .., 40 .., then round by round 30, 42, 41"), and what the 64 lent values are then.
use Rattle.std.specs.Prelude.{List, ℕ, ℤ, Result}
use Rattle.answer.specs.Told.{Answer, answered}
use Rattle.answer.specs.declared.Refusal.{Refusal}
use Rattle.answer.specs.declared.Simulated.{Simulated}
use Rattle.table.specs.OnTable.{on_table}
use Rattle.layout.specs.Image.{model_of}
use Rattle.feed.specs.Supply.{Lent, Supplies}
use Rattle.simulation.specs.Simulate.{Supply, and_then, none_taken, simulate_of}
use Rattle.simulation.specs.Call.{Simulating, put_out, simulate_text, SimulationAnswers}

-- of `play`: n later rounds over whatever the places supply, no number used yet, and the declared clocks put out
pub record PlayCall (t : List ℕ) (l : Lent) (n : ℕ) (at : List ℕ) (was : List ℤ) (r : Result Simulated Refusal) (vs : List ℤ) : Type 0 where
  pub plays : (p : Supply) → Supplies l p none_taken at none_taken
      → SimulationAnswers (and_then (simulate_of (model_of t) p n) (λ e. answered (put_out (model_of t) was e))) was r vs

-- ---- the call
-- t is the table, samples the sample text, n the later rounds asked for, was the lent values before the call
abbrev pub simulate_on : List ℕ → List ℕ → ℕ → List ℤ → Answer Simulating
simulate_on t samples n was = on_table t (λ m. simulate_text m samples n was)

-- r is the answer, vs the lent values after the call
abbrev pub SimulateCall : List ℕ → List ℕ → ℕ → List ℤ → Result Simulated Refusal → List ℤ → Type 0
SimulateCall t samples n was r vs = SimulationAnswers (simulate_on t samples n was) was r vs
