-- What each turn of the loop of `marks::pass` keeps.
use Prim.Native.Nat.{◌-◌}
use Rattle.marks.specs.Marks.{rows_of_marks}
use Rattle.marks.proofs.Passing.{Passing}
use Rattle.marks.proofs.pass.Given as goal

abbrev pub invariant-loop-a : goal.invariant-loop-a
invariant-loop-a l = Passing l.k l.via l.initial.m l.a l.m

abbrev pub decreases-loop-a : goal.decreases-loop-a
decreases-loop-a l = rows_of_marks - l.a
