-- `lining::lines` is safe: round 0 begins with no sample taken and all values 0.
use mathlib.Core.Path.{refl}
use Rattle.simulation.specs.Simulate.{no_values}
use Rattle.lining.proofs.lines.Goals as goal

pub first_said-first-requires : goal.first_said-first-requires
unfolding no_values
first_said-first-requires c = (c.requires.0, record { at_count = c.requires.1; used-count = refl }, refl)
