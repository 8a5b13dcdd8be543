-- Any two outcomes that the contract of `simulate` allows are equal: the answer, the state, and all lent values.
use mathlib.Core.Path.{◌≡◌, sym, ◌∙◌}
use mathlib.Core.List.{List}
use Prim.Native.Nat.{ℕ}
use lib.IntN.{ℤ}
use Rattle.answer.specs.Told.{Answer, answered, refused}
use Rattle.answer.specs.declared.Simulated.{Simulated}
use Rattle.answer.specs.declared.Refusal.{Refusal}
use Rattle.std.specs.Prelude.{Result, Ok, Err}
use Rattle.answer.proofs.SaysFixes.{refused-fixed}
use Rattle.simulation.specs.Call.{Simulating, SimulationAnswers}
use Rattle.simulate.specs.Simulate.{simulate_on, SimulateCall}

pub answers-fix : (a : Answer Simulating) (was : List ℤ) (r q : Result Simulated Refusal) (vs us : List ℤ) → SimulationAnswers a was r vs
    → SimulationAnswers a was q us
    → (r ≡ q) × (vs ≡ us)
answers-fix (answered d) was (Ok p) (Ok o) vs us g h =
    let n = g.rounds ∙ sym h.rounds in
    let s = g.state ∙ sym h.state in
    (λ i. Ok (record { rounds = n i; state = s i }), g.values ∙ sym h.values)
answers-fix (answered d) was (Ok p) (Err q) vs us g h = absurd h
answers-fix (answered d) was (Err p) q vs us g h = absurd g
answers-fix (refused t) was r q vs us g h = (refused-fixed r q t g.told h.told, g.values ∙ sym h.values)

pub simulate-determined : (t samples : List ℕ) (n : ℕ) (was : List ℤ) (r q : Result Simulated Refusal) (vs us : List ℤ)
    → SimulateCall t samples n was r vs → SimulateCall t samples n was q us → (r ≡ q) × (vs ≡ us)
simulate-determined t samples n was r q vs us g h = answers-fix (simulate_on t samples n was) was r q vs us g h
