-- The contract of `simulate` says exactly what is said of the product and its clocks.
use mathlib.Core.Logic.{◌↔◌}
use mathlib.Core.List.{List}
use Prim.Native.Nat.{ℕ}
use lib.IntN.{ℤ}
use Rattle.answer.specs.Told.{Answer}
use Rattle.answer.specs.declared.Simulated.{Simulated}
use Rattle.answer.specs.declared.Refusal.{Refusal}
use Rattle.std.specs.Prelude.{Result}
use Rattle.model.specs.Model.{Comp}
use Rattle.table.proofs.OnImageExactly.{on-table-leaves}
use Rattle.simulation.specs.Call.{Simulating, simulate_text, SimulationAnswers}
use Rattle.simulation.specs.Exactly.{SimulateAnswer}
use Rattle.simulation.proofs.Answers.{simulate-model-exactly}
use Rattle.simulate.specs.Simulate.{SimulateCall}
use Rattle.simulate.specs.SimulateExactly.{SimulateExactly}

pub simulate-answers-exactly : (t samples : List ℕ) (n : ℕ) (was : List ℤ) (r : Result Simulated Refusal) (vs : List ℤ)
    → SimulateCall t samples n was r vs ↔ SimulateExactly t samples n was r vs
simulate-answers-exactly t samples n was r vs =
    let R : Comp → List Comp → Answer Simulating → Type 0 = λ c cs. SimulateAnswer c cs samples n was in
    on-table-leaves t (λ m. simulate_text m samples n was) R (λ c cs w. simulate-model-exactly c cs w samples n was) (λ a. SimulationAnswers a was r vs)
