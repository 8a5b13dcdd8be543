-- What each turn of the loop of `namesheet::read_names` keeps.
use lib.ListN.{length, drop}
use Rattle.namelaws.proofs.NameTurns.{Between}
use Rattle.namesheet.proofs.read_names.Given as goal

abbrev pub invariant-loop-places : goal.invariant-loop-places
invariant-loop-places l = Between l.text l.from l.places l.at l.n l.low

abbrev pub decreases-loop-places : goal.decreases-loop-places
decreases-loop-places l = length (drop l.at l.text)
