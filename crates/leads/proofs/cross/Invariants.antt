-- What each turn of the loop of `leads::cross` keeps.
use Rattle.leads.proofs.Standing.{Crossing}
use Rattle.leads.proofs.cross.Given as goal

abbrev pub invariant-loop-left : goal.invariant-loop-left
invariant-loop-left l = Crossing l.to l.new l.left l.initial.table l.table

abbrev pub decreases-loop-left : goal.decreases-loop-left
decreases-loop-left l = l.left
