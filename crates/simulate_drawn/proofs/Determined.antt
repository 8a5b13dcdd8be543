-- Any two outcomes that the contract of `simulate_drawn` allows are equal: the answer, the state, and all lent values.
use mathlib.Core.Path.{◌≡◌}
use mathlib.Core.List.{List}
use Prim.Native.Nat.{ℕ}
use lib.IntN.{ℤ}
use Rattle.answer.specs.declared.Simulated.{Simulated}
use Rattle.answer.specs.declared.Refusal.{Refusal}
use Rattle.std.specs.Prelude.{Result}
use Rattle.simulate.proofs.Determined.{answers-fix}
use Rattle.simulate_drawn.specs.SimulateDrawn.{simulate_drawn_on, SimulateDrawnCall}

pub simulate_drawn-determined : (t laws numbers : List ℕ) (n : ℕ) (was : List ℤ) (r q : Result Simulated Refusal) (vs us : List ℤ)
    → SimulateDrawnCall t laws numbers n was r vs → SimulateDrawnCall t laws numbers n was q us → (r ≡ q) × (vs ≡ us)
simulate_drawn-determined t laws numbers n was r q vs us g h = answers-fix (simulate_drawn_on t laws numbers n was) was r q vs us g h
