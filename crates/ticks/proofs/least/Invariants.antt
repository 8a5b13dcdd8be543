-- What each turn of the loop of `ticks::least` keeps.
use Rattle.ticks.proofs.Chosen.{Walked}
use Rattle.ticks.proofs.least.Given as goal

abbrev pub invariant-loop-left : goal.invariant-loop-left
invariant-loop-left l = Walked l.e l.values l.left l.best

abbrev pub decreases-loop-left : goal.decreases-loop-left
decreases-loop-left l = l.left
