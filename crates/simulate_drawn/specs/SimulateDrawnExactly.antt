-- What `simulate_drawn` answers, said of the product and its clocks: every refusal with its reason, in the paper's order, then the answer;
-- and what the lent values are then.
use Rattle.std.specs.Prelude.{List, ℕ, ℤ, Result}
use Rattle.answer.specs.declared.Simulated.{Simulated}
use Rattle.answer.specs.declared.Refusal.{Refusal}
use Rattle.iosa.specs.InOrder.{Leaves}
use Rattle.layout.specs.OnImage.{OnImage}
use Rattle.simulation.specs.Call.{SimulationAnswers}
use Rattle.drawing.specs.Exactly.{SimulateDrawnAnswer}

abbrev pub SimulateDrawnExactly : List ℕ → List ℕ → List ℕ → ℕ → List ℤ → Result Simulated Refusal → List ℤ → Type 0
SimulateDrawnExactly t laws numbers n was r vs =
    Leaves (OnImage t (λ c cs. SimulateDrawnAnswer c cs laws numbers n was)) (λ a. SimulationAnswers a was r vs)
