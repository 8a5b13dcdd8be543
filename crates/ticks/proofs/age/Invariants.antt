-- What each turn of the loop of `ticks::age` keeps.
use Rattle.ticks.proofs.InPlace.{Aging}
use Rattle.ticks.proofs.age.Given as goal

abbrev pub invariant-loop-left : goal.invariant-loop-left
invariant-loop-left l = Aging l.d l.v l.initial.values l.left l.values

abbrev pub decreases-loop-left : goal.decreases-loop-left
decreases-loop-left l = l.left
