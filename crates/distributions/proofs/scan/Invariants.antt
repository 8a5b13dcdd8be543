-- What each turn of the loop of `distributions::scan` keeps.
use Prim.Native.Nat.{◌-◌}
use Rattle.answer.specs.Limits.{max_clocks}
use Rattle.distributions.proofs.TextLaws.{Between}
use Rattle.distributions.proofs.scan.Given as goal

abbrev pub invariant-loop-x : goal.invariant-loop-x
invariant-loop-x l = Between l.text l.d l.at l.p l.x

abbrev pub decreases-loop-x : goal.decreases-loop-x
decreases-loop-x l = max_clocks - l.x
