-- The rounds behind an answer of `simulate`: what every answer, unless refused, stands on (02, 4/13).
use Rattle.std.specs.Prelude.{◌≡◌, List, ◌∷◌, ℕ, ◌≤◌, ◌<◌, ℤ}
use Rattle.answer.specs.Limits.{max_clocks}
use Rattle.answer.specs.declared.Simulated.{Simulated}
use Rattle.words.specs.Bytes.{state_of}
use Rattle.model.specs.Model.{Comp, declared}
use Rattle.iosa.specs.Automaton.{Joinable}
use Rattle.iosa.specs.Thesis.{AllDefinition41}
use Rattle.iosa.specs.TimedExactly.{Waits}
use Rattle.walkable.specs.Orderly.{EitherTest}
use Rattle.layout.specs.OnImage.{Holds}
use Rattle.simulation.specs.Simulate.{Round}
use Rattle.simulation.specs.Samples.{recorded, LinesOf}
use Rattle.simulation.specs.Free.{After}
use Rattle.simulation.specs.Exactly.{PutsOut}

-- the table holds a model whose components are of Definition 4.1 and compatible, that passes check 18, or else is closed and passes the new test, and the text
-- is that of lists; k of n later rounds were done, and the last of them ended so, whatever urgent steps are chosen in it and before it
pub record SimulatedFrom (t samples : List ℕ) (n : ℕ) (was : List ℤ) (k : ℕ) (r : Simulated) (vs : List ℤ) : Type 0 where
  pub first : Comp
  pub others : List Comp
  pub holds : Holds t (first ∷ others)
  pub definition : AllDefinition41 (first ∷ others)
  pub joinable : Joinable (first ∷ others)
  pub either : EitherTest (first ∷ others)
  pub lists : List (List ℕ)
  pub text : LinesOf (declared (first ∷ others)) max_clocks 0 samples lists
  pub last : Round
  pub after : After first others (recorded lists) k last
  pub agrees : {q : Round} → After first others (recorded lists) k q → q ≡ last
  pub most : k ≤ n
  -- "A quiet timed step ends it, uncounted"
  pub over : k < n → (x : ℕ) → Waits first others last.state x → ⊥
  pub state : r.state ≡ state_of last.state
  pub values : PutsOut (first ∷ others) last.values was vs
