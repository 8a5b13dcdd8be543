-- What the call `simulate_drawn` answers of a model (02, 4/13 and 13/13): "Refusals: .. 49 .., 50 ..; placed as 40 and 41".
use Rattle.std.specs.Prelude.{List, ℕ, ℤ}
use Rattle.answer.specs.Told.{Answer, answered}
use Rattle.model.specs.Model.{Model, declared}
use Rattle.simulation.specs.Simulate.{Supply, and_then}
use Rattle.simulation.specs.Call.{Simulating, simulate_with}
use Rattle.drawing.specs.File.{laws_of}
use Rattle.drawing.specs.Draws.{draws}

-- t is the file of distributions, ns the lent numbers
unfoldable pub supplied_by : Model → List ℕ → List ℕ → Answer Supply
supplied_by m t ns = and_then (laws_of (declared m) t) (λ ls. answered (draws ls ns))

-- n later rounds; was are the lent values before
unfoldable pub simulate_drawn : Model → List ℕ → List ℕ → ℕ → List ℤ → Answer Simulating
simulate_drawn m t ns n was = simulate_with m (supplied_by m t ns) n was
