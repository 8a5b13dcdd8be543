-- The rounds behind an answer of `simulate_drawn`: what every answer, unless refused, stands on (02, 4/13 and 13/13).
use Rattle.std.specs.Prelude.{◌≡◌, List, ◌∷◌, ℕ, ◌≤◌, ◌<◌, ℤ}
use Rattle.std.proofs.Math.Option.{Option}
use Rattle.answer.specs.Limits.{max_clocks}
use Rattle.answer.specs.declared.Simulated.{Simulated}
use Rattle.words.specs.Bytes.{state_of}
use Rattle.model.specs.Model.{Comp, declared}
use Rattle.iosa.specs.Automaton.{Joinable}
use Rattle.iosa.specs.Thesis.{AllDefinition41}
use Rattle.iosa.specs.TimedExactly.{Waits}
use Rattle.walkable.specs.Orderly.{EitherTest}
use Rattle.layout.specs.OnImage.{Holds}
use Rattle.simulation.specs.Simulate.{Round}
use Rattle.simulation.specs.Free.{After}
use Rattle.simulation.specs.Exactly.{PutsOut}
use Rattle.draw.specs.declared.Law.{Law}
use Rattle.drawing.specs.File.{LinesOf}
use Rattle.drawing.specs.Draws.{draws}

-- as `SimulatedFrom` of `simulate`, over draws from the distributions of the file by the lent numbers
pub record DrawnFrom (t laws numbers : List ℕ) (n : ℕ) (was : List ℤ) (k : ℕ) (r : Simulated) (vs : List ℤ) : Type 0 where
  pub first : Comp
  pub others : List Comp
  pub holds : Holds t (first ∷ others)
  pub definition : AllDefinition41 (first ∷ others)
  pub joinable : Joinable (first ∷ others)
  pub either : EitherTest (first ∷ others)
  pub distributions : List (Option Law)
  pub file : LinesOf (declared (first ∷ others)) max_clocks 0 laws distributions
  pub last : Round
  pub after : After first others (draws distributions numbers) k last
  pub agrees : {q : Round} → After first others (draws distributions numbers) k q → q ≡ last
  pub most : k ≤ n
  -- "A quiet timed step ends it, uncounted"
  pub over : k < n → (x : ℕ) → Waits first others last.state x → ⊥
  pub state : r.state ≡ state_of last.state
  pub values : PutsOut (first ∷ others) last.values was vs
