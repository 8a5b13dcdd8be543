-- What each turn of the loop of `treecheck::all_in` keeps.
use Rattle.treecheck.proofs.NumberLaws.{Asked}
use Rattle.treecheck.proofs.all_in.Given as goal

abbrev pub invariant-loop-j : goal.invariant-loop-j
invariant-loop-j l = Asked l.set l.i l.count l.j
