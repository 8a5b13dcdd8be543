-- What each turn of the loop of `treecheck::column` keeps.
use Rattle.treecheck.proofs.NumberLaws.{Sought}
use Rattle.treecheck.proofs.column.Given as goal

abbrev pub invariant-loop-j : goal.invariant-loop-j
invariant-loop-j l = Sought l.set l.i l.count l.initial.k l.k l.j
