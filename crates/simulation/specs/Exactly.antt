-- What the call `simulate` answers of a model, in the terms of document 000: every refusal with its reason, in the order of 02, 4/13, then the answer.
use Rattle.std.specs.Prelude.{◌≡◌, false, List, ◌∷◌, ℕ, ◌≤◌, ◌<◌, length, ℤ}
use Rattle.laws.specs.Sets.{has, ◌∈◌}
use Rattle.answer.specs.Limits.{max_budget, max_clocks}
use Rattle.answer.specs.Told.{Told, Answer, answered, refused}
use Rattle.model.specs.Model.{Comp, Model, declared}
use Rattle.iosa.specs.InOrder.{Check, ◌▹◌, needs, accepted}
use Rattle.iosa.specs.TimedExactly.{value_of}
use Rattle.walkable.specs.Entry.{settles}
use Rattle.simulation.specs.Simulate.{Simulation}
use Rattle.simulation.specs.Samples.{recorded, SamplesAnswer}
use Rattle.simulation.specs.Free.{Simulates}
use Rattle.simulation.specs.Call.{Simulating}

-- "writes the declared clocks to 64 lent values": vs are the clocks' values, was and now the lent ones before and after
pub record PutsOut (m : Model) (vs was now : List ℤ) : Type 0 where
  pub count : length now ≡ length was
  pub put : (x : ℕ) → x < length was → x ∈ declared m → value_of now x ≡ value_of vs x
  pub stays : (x : ℕ) → has (declared m) x ≡ false → value_of now x ≡ value_of was x

-- 40, or the text is that of lists
abbrev pub readable : Model → List ℕ → Check
readable m t = record { Refuses = λ f. SamplesAnswer (declared m) t (refused f); Passes = (ls : List (List ℕ)) × SamplesAnswer (declared m) t (answered ls) }

-- n later rounds over the lists of the text: "later rounds done and state", or "round by round 30, 42 .., 41"
pub data RoundsAnswer (c : Comp) (cs : List Comp) (t : List ℕ) (n : ℕ) (was : List ℤ) : Answer Simulating → Type 0 where
  gives : {ls : List (List ℕ)} {d : Simulation} {now : List ℤ} → SamplesAnswer (declared (c ∷ cs)) t (answered ls) → Simulates c cs (recorded ls) n (answered d)
      → PutsOut (c ∷ cs) d.last.values was now → RoundsAnswer c cs t n was (answered (record { rounds = d.rounds; state = d.last.state; values = now }))
  refuses : {ls : List (List ℕ)} {f : Told} → SamplesAnswer (declared (c ∷ cs)) t (answered ls) → Simulates c cs (recorded ls) n (refused f)
      → RoundsAnswer c cs t n was (refused f)

-- "after the table's, 22 for more rounds, 28 if not 64 values, 40 .., then round by round"
abbrev pub SimulateAnswer : Comp → List Comp → List ℕ → ℕ → List ℤ → Answer Simulating → Type 0
SimulateAnswer c cs t n was =
    accepted (c ∷ cs) ▹ settles (c ∷ cs) ▹ needs 22 (n ≤ max_budget) ▹ needs 28 (length was ≡ max_clocks) ▹ readable (c ∷ cs) t ▹ RoundsAnswer c cs t n was
