-- The checks of the new test, and of the calls that take systems that pass either test (02, 8/13), behind acceptance.
use Rattle.std.specs.Prelude.{◌⊎◌}
use Rattle.answer.specs.Told.{Told}
use Rattle.model.specs.Model.{Model}
use Rattle.iosa.specs.Automaton.{AllConfluent}
use Rattle.iosa.specs.Faults.{Clash, First}
use Rattle.iosa.specs.InOrder.{Check}
use Rattle.triggering.specs.Triggering.{Passes, NoOpenInput}
use Rattle.walkable.specs.Orderly.{EitherTest, Open}

-- 45 "if there is one": the lowest open input, or the system is closed
abbrev pub closed : Model → Check
closed m = record { Refuses = Open m; Passes = NoOpenInput m }

-- "otherwise 18 where neither test passes": at the first clash, as check 18 has it, or the new test passes
abbrev pub passing : Model → Check
passing m = record { Refuses = λ t. (Passes m → ⊥) × First (Clash m) t; Passes = Passes m }

-- what is refused where check 18 has failed: 45, or else 18
pub record Unsettled (m : Model) (t : Told) : Type 0 where
  pub failed : AllConfluent m → ⊥
  pub why : Open m t ⊎ (NoOpenInput m × (Passes m → ⊥) × First (Clash m) t)

-- settling after a path, and simulation: that, or either test passes
abbrev pub settles : Model → Check
settles m = record { Refuses = Unsettled m; Passes = EitherTest m }
