-- What the call `simulate_drawn` answers of a model, in the terms of document 000: every refusal with its reason, in the order of 02, 4/13 and 13/13, then the answer.
use Rattle.std.specs.Prelude.{◌≡◌, List, ◌∷◌, ℕ, ◌≤◌, length, ℤ}
use Rattle.std.proofs.Math.Option.{Option}
use Rattle.answer.specs.Limits.{max_budget, max_clocks}
use Rattle.answer.specs.Told.{Told, Answer, answered, refused}
use Rattle.model.specs.Model.{Comp, Model, declared}
use Rattle.iosa.specs.InOrder.{Check, ◌▹◌, needs, accepted}
use Rattle.walkable.specs.Entry.{settles}
use Rattle.simulation.specs.Simulate.{Simulation}
use Rattle.simulation.specs.Free.{Simulates}
use Rattle.simulation.specs.Call.{Simulating}
use Rattle.simulation.specs.Exactly.{PutsOut}
use Rattle.draw.specs.declared.Law.{Law}
use Rattle.drawing.specs.File.{FileAnswer}
use Rattle.drawing.specs.Draws.{draws}

-- 49, or the file is that of distributions
abbrev pub readable : Model → List ℕ → Check
readable m t = record { Refuses = λ f. FileAnswer (declared m) t (refused f); Passes = (ls : List (Option Law)) × FileAnswer (declared m) t (answered ls) }

-- n later rounds over draws from the distributions of the file: "later rounds done and state", or "round by round 30, 42 .." and 50 in the place of 41
pub data RoundsAnswer (c : Comp) (cs : List Comp) (t ns : List ℕ) (n : ℕ) (was : List ℤ) : Answer Simulating → Type 0 where
  gives : {ls : List (Option Law)} {d : Simulation} {now : List ℤ} → FileAnswer (declared (c ∷ cs)) t (answered ls)
      → Simulates c cs (draws ls ns) n (answered d) → PutsOut (c ∷ cs) d.last.values was now
      → RoundsAnswer c cs t ns n was (answered (record { rounds = d.rounds; state = d.last.state; values = now }))
  refuses : {ls : List (Option Law)} {f : Told} → FileAnswer (declared (c ∷ cs)) t (answered ls) → Simulates c cs (draws ls ns) n (refused f)
      → RoundsAnswer c cs t ns n was (refused f)

-- "after the table's, 22 for more rounds, 28 if not 64 values", 49, "then round by round"
abbrev pub SimulateDrawnAnswer : Comp → List Comp → List ℕ → List ℕ → ℕ → List ℤ → Answer Simulating → Type 0
SimulateDrawnAnswer c cs t ns n was =
    accepted (c ∷ cs) ▹ settles (c ∷ cs) ▹ needs 22 (n ≤ max_budget) ▹ needs 28 (length was ≡ max_clocks) ▹ readable (c ∷ cs) t ▹ RoundsAnswer c cs t ns n was
