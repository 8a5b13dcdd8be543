-- What each turn of the loop of `treetests::gather_all` keeps.
use lib.ListN.{length, drop}
use Rattle.treetests.proofs.PassLaws.{Gathering}
use Rattle.treetests.proofs.gather_all.Given as goal

abbrev pub invariant-loop-at : goal.invariant-loop-at
invariant-loop-at l = Gathering l.text l.g l.at

abbrev pub decreases-loop-at : goal.decreases-loop-at
decreases-loop-at l = length (drop l.at l.text)
