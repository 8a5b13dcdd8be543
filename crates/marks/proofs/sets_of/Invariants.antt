-- What each turn of the loop of `marks::sets_of` keeps.
use Rattle.marks.proofs.Rows.{Taking}
use Rattle.marks.proofs.sets_of.Given as goal

abbrev pub invariant-loop-left : goal.invariant-loop-left
invariant-loop-left l = Taking l.w l.m l.initial.s l.left l.s

abbrev pub decreases-loop-left : goal.decreases-loop-left
decreases-loop-left l = l.left
