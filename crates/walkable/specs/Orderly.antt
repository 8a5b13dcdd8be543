-- What the new test answers (02, 8/13), in the terms of document 000: fine, or one of the refusals, in order.
use Rattle.std.specs.Prelude.{◌≡◌, ◌⊎◌, [], ◌∷◌, ℕ}
use Rattle.laws.specs.Lowest.{Lowest}
use Rattle.answer.specs.Told.{Told, tell}
use Rattle.model.specs.Model.{Model}
use Rattle.iosa.specs.Automaton.{Conforming, Joinable, AllConfluent}
use Rattle.triggering.specs.Triggering.{Passes, NoOpenInput, OpenInput}

-- a system that the new test lets through
pub record Orderly (m : Model) : Type 0 where
  pub conforms : Conforming m
  pub joins : Joinable m
  pub closed : NoOpenInput m
  pub passes : Passes m

-- either test passes: check 18, or else, in a closed system, the new test
abbrev pub EitherTest : Model → Type 0
EitherTest m = AllConfluent m ⊎ (NoOpenInput m × Passes m)

-- a system that may be settled after a path, and simulated
pub record Settles (m : Model) : Type 0 where
  pub conforms : Conforming m
  pub joins : Joinable m
  pub either : EitherTest m

-- 45: "the lowest action that is an input and nobody's output"
pub record Open (m : Model) (t : Told) : Type 0 where
  pub action : ℕ
  pub lowest : Lowest (OpenInput m) action
  pub told : t ≡ tell 45 (action ∷ [])
