-- What each turn of the loop of `marks::table_of` keeps.
use Rattle.marks.proofs.Rows.{Filling}
use Rattle.marks.proofs.table_of.Given as goal

abbrev pub invariant-loop-left : goal.invariant-loop-left
invariant-loop-left l = Filling l.w l.s l.left l.next

abbrev pub decreases-loop-left : goal.decreases-loop-left
decreases-loop-left l = l.left
