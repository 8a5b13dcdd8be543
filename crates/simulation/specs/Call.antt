-- What the call `simulate` answers of a model (02, 4/13): "after the table's, 22 for more rounds, 28 if not 64 values, 40 .., then round by round";
-- and the 64 lent values then.
use Rattle.std.specs.Prelude.{◌≡◌, not, cond, List, [], ◌∷◌, ℕ, length, eqb, ℤ, Result, IsOkAnd}
use Rattle.std.proofs.Math.Option.{Option, none, some}
use Rattle.laws.specs.Sets.{has}
use Rattle.laws.specs.Search.{when, or_else}
use Rattle.answer.specs.Limits.{max_clocks}
use Rattle.answer.specs.Told.{Told, tell, Answer, answered, refused, RefusedWith}
use Rattle.answer.specs.declared.Refusal.{Refusal}
use Rattle.answer.specs.declared.Simulated.{Simulated}
use Rattle.words.specs.Bytes.{state_of}
use Rattle.model.specs.Model.{Model, declared}
use Rattle.iosa.specs.Settle.{budget_fault}
use Rattle.iosa.specs.TimedExactly.{value_of}
use Rattle.triggering.specs.Test.{entry_of}
use Rattle.simulation.specs.Simulate.{Supply, Simulation, each_from, and_then, simulate_of}
use Rattle.simulation.specs.Samples.{samples_of, recorded}

-- "It answers later rounds done and state and writes the declared clocks to 64 lent values"
pub record Simulating : Type 0 where
  pub rounds : ℕ
  pub state : List ℕ
  pub values : List ℤ

-- the values vs of the clocks in d put over lent ones: at clock x, where z is lent
unfoldable pub put_at : ℕ → List ℤ → ℕ → ℤ → ℤ
put_at d vs x z = cond (has d x) (value_of vs x) z

-- "writes the declared clocks"; undeclared places stay as they were
unfoldable pub put_out : Model → List ℤ → Simulation → Simulating
put_out m was d = record { rounds = d.rounds; state = d.last.state; values = each_from (put_at (declared m) d.last.values) 0 was }

-- 28 "if not 64 values", place 0
unfoldable pub lent_fault : List ℤ → Option Told
lent_fault was = when (not (eqb (length was) max_clocks)) (tell 28 (0 ∷ []))

-- a simulation over whatever supplies the samples: p is the supply, or why there is none
unfoldable pub simulate_with : Model → Answer Supply → ℕ → List ℤ → Answer Simulating
simulate_with m p n was =
    let b = budget_fault n in
    let d = lent_fault was in
    let x = and_then p (λ q. and_then (simulate_of m q n) (λ e. answered (put_out m was e))) in
    elim (or_else (entry_of m) (or_else b d)) [ some t ↦ refused t | none ↦ x ]

-- the lists of a text
unfoldable pub supplied : Model → List ℕ → Answer Supply
supplied m t = and_then (samples_of (declared m) t) (λ ls. answered (recorded ls))

unfoldable pub simulate_text : Model → List ℕ → ℕ → List ℤ → Answer Simulating
simulate_text m t n was = simulate_with m (supplied m t) n was

-- ---- what is answered, and what the lent values are then
-- "later rounds done and state": as many parts as components, places behind them 0
pub record SimulationGives (d : Simulating) (p : Simulated) (vs : List ℤ) : Type 0 where
  pub rounds : p.rounds ≡ d.rounds
  pub state : p.state ≡ state_of d.state
  pub values : vs ≡ d.values

-- "A refusal returns its number and place and changes no lent byte"; was are the values before
pub record SimulationRefused (f : Told) (was : List ℤ) (r : Result Simulated Refusal) (vs : List ℤ) : Type 0 where
  pub told : RefusedWith f r
  pub values : vs ≡ was

abbrev pub SimulationAnswers : Answer Simulating → List ℤ → Result Simulated Refusal → List ℤ → Type 0
SimulationAnswers (answered d) was r vs = IsOkAnd r (λ p. SimulationGives d p vs)
SimulationAnswers (refused f) was r vs = SimulationRefused f was r vs
