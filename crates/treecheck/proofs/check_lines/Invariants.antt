-- What each turn of the loop of `treecheck::check_lines` keeps.
use lib.ListN.{length, drop}
use Rattle.treecheck.proofs.Turns.{Stands}
use Rattle.treecheck.proofs.check_lines.Given as goal

abbrev pub invariant-loop-at : goal.invariant-loop-at
invariant-loop-at l = Stands l.text l.low l.at l.n

abbrev pub decreases-loop-at : goal.decreases-loop-at
decreases-loop-at l = length (drop l.at l.text)
