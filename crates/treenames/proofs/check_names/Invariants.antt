-- What each turn of the loop of `treenames::check_names` keeps.
use lib.ListN.{length, drop}
use Rattle.treenames.proofs.NameLaws.{Asked}
use Rattle.treenames.proofs.check_names.Given as goal

abbrev pub invariant-loop-at : goal.invariant-loop-at
invariant-loop-at l = Asked l.text l.known l.at l.n

abbrev pub decreases-loop-at : goal.decreases-loop-at
decreases-loop-at l = length (drop l.at l.text)
