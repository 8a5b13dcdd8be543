-- What each turn of the loop of `settling::by_rule` keeps.
use mathlib.Core.Path.{◌≡◌}
use lib.ListN.{length}
use Rattle.answer.specs.Limits.{max_components}
use Rattle.moves.specs.Standing.{holding}
use Rattle.settling.proofs.Onward.{Runs}
use Rattle.settling.proofs.by_rule.Given as goal

abbrev pub invariant-loop-steps : goal.invariant-loop-steps
invariant-loop-steps l = (length l.parts ≡ max_components) × Runs l.t l.budget (holding l.n l.initial.parts) l.initial.trace (holding l.n l.parts) l.resets l.steps l.trace
