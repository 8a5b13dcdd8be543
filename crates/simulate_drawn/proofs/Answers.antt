-- The contract of `simulate_drawn` says exactly what is said of the product and its clocks.
use mathlib.Core.Logic.{◌↔◌}
use mathlib.Core.List.{List}
use Prim.Native.Nat.{ℕ}
use lib.IntN.{ℤ}
use Rattle.answer.specs.Told.{Answer}
use Rattle.answer.specs.declared.Simulated.{Simulated}
use Rattle.answer.specs.declared.Refusal.{Refusal}
use Rattle.std.specs.Prelude.{Result}
use Rattle.model.specs.Model.{Comp}
use Rattle.table.proofs.OnImageExactly.{on-table-leaves}
use Rattle.simulation.specs.Call.{Simulating, SimulationAnswers}
use Rattle.drawing.specs.Call.{simulate_drawn}
use Rattle.drawing.specs.Exactly.{SimulateDrawnAnswer}
use Rattle.drawing.proofs.Answers.{simulate-drawn-model-exactly}
use Rattle.simulate_drawn.specs.SimulateDrawn.{SimulateDrawnCall}
use Rattle.simulate_drawn.specs.SimulateDrawnExactly.{SimulateDrawnExactly}

pub simulate_drawn-answers-exactly : (t laws numbers : List ℕ) (n : ℕ) (was : List ℤ) (r : Result Simulated Refusal) (vs : List ℤ)
    → SimulateDrawnCall t laws numbers n was r vs ↔ SimulateDrawnExactly t laws numbers n was r vs
simulate_drawn-answers-exactly t laws numbers n was r vs =
    let R : Comp → List Comp → Answer Simulating → Type 0 = λ c cs. SimulateDrawnAnswer c cs laws numbers n was in
    on-table-leaves t (λ m. simulate_drawn m laws numbers n was) R (λ c cs w. simulate-drawn-model-exactly c cs w laws numbers n was)
    (λ a. SimulationAnswers a was r vs)
