-- What the program `simulate` writes (02, 4/13): how the simulation ended, or the line of a refusal.
use Rattle.std.specs.Prelude.{List, ℕ}
use Rattle.answer.specs.Told.{answered, refused}
use Rattle.model.specs.Model.{Model, declared}
use Rattle.model.specs.Reading.{read_of}
use Rattle.answering.specs.Report.{refused_line}
use Rattle.simulation.specs.Simulate.{no_values}
use Rattle.simulation.specs.Call.{simulate_text}
use Rattle.roundlines.specs.Lines.{ended_text}

-- the values that are lent are 0, and those of the clocks that are not declared are not printed
unfoldable pub ends_text : Model → List ℕ → ℕ → List ℕ
ends_text m samples n = elim (simulate_text m samples n no_values) [
  | refused f ↦ refused_line f
  | answered d ↦ ended_text d.rounds d.state (declared m) d.values
]

unfoldable pub simulated_text : List ℕ → List ℕ → ℕ → List ℕ
simulated_text input samples n = elim (read_of input) [ refused f ↦ refused_line f | answered m ↦ ends_text m samples n ]
