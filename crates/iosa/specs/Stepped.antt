-- One urgent step, by our rule or by a named action, as the product has it (01, "Confluence and settling").
use Rattle.std.specs.Prelude.{List, ◌∷◌, ℕ, ◌<◌}
use Rattle.answer.specs.Told.{Step, moved, stable}
use Rattle.model.specs.Model.{Comp}
use Rattle.iosa.specs.Automaton.{UrgentRow, Stable}
use Rattle.iosa.specs.Product.{product, state_of, Within}

-- what a step yields: the clocks it resets and the state after it
pub record Gone (S : Type 0) : Type 0 where
  pub resets : ℕ
  pub after : S

-- "One step, by our rule or by a named action, .. answers the outcome and, unless refused, the state, and needs no 18"
pub record Stepping : Type 0 where
  pub step : Step
  pub state : List ℕ

-- a step by action a: an urgent row of the product, to a composed state in range
pub record StepsBy (c : Comp) (cs : List Comp) (s : List ℕ) (a R : ℕ) (t : List ℕ) : Type 0 where
  pub row : UrgentRow (product c cs) (state_of c cs s) 0 a R (state_of c cs t)
  pub range : Within (c ∷ cs) t

-- a step by our rule: none from a stable state, else the lowest-numbered one
pub data StepsByRule (c : Comp) (cs : List Comp) (s : List ℕ) : Stepping → Type 0 where
  is-stable : Stable (product c cs) (state_of c cs s) → StepsByRule c cs s (record { step = stable; state = s })
  moves : {a R : ℕ} {t : List ℕ} → StepsBy c cs s a R t → ((b C Q : ℕ) (y : (product c cs).State) → b < a → UrgentRow (product c cs) (state_of c cs s) C b Q y → ⊥)
      → StepsByRule c cs s (record { step = moved a R; state = t })

-- a step by the named action
pub data StepsByName (c : Comp) (cs : List Comp) (s : List ℕ) (a : ℕ) : Stepping → Type 0 where
  by-action : {R : ℕ} {t : List ℕ} → StepsBy c cs s a R t → StepsByName c cs s a (record { step = moved a R; state = t })
