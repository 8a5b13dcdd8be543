-- What each turn of the loop of `treenames::number_set` keeps.
use lib.ListN.{length, drop}
use Rattle.treenames.proofs.NameLaws.{Counted}
use Rattle.treenames.proofs.number_set.Given as goal

abbrev pub invariant-loop-at : goal.invariant-loop-at
invariant-loop-at l = Counted l.text l.known l.at

abbrev pub decreases-loop-at : goal.decreases-loop-at
decreases-loop-at l = length (drop l.at l.text)
