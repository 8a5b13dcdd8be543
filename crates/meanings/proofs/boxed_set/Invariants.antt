-- What each turn of the loop of `meanings::boxed_set` keeps.
use lib.ListN.{length, drop}
use Rattle.meanings.proofs.Gathering.{Boxing}
use Rattle.meanings.proofs.boxed_set.Given as goal

abbrev pub invariant-loop-at : goal.invariant-loop-at
invariant-loop-at l = Boxing l.text l.boxed l.at

abbrev pub decreases-loop-at : goal.decreases-loop-at
decreases-loop-at l = length (drop l.at l.text)
