-- What each turn of the loop of `meanings::name_actions` keeps.
use lib.ListN.{length, drop}
use Rattle.meanings.proofs.Gathering.{Naming}
use Rattle.meanings.proofs.name_actions.Given as goal

abbrev pub invariant-loop-at : goal.invariant-loop-at
invariant-loop-at l = Naming l.text l.boxed l.initial.words l.components l.actions l.at l.words

abbrev pub decreases-loop-at : goal.decreases-loop-at
decreases-loop-at l = length (drop l.at l.text)
