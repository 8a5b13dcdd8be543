-- What each turn of the loop of `namecheck::check_body` keeps.
use lib.ListN.{length, drop}
use Rattle.named.specs.ReadNamed.{Progress₂}
use Rattle.namelaws.proofs.BodyTurns.{Stands}
use Rattle.namecheck.proofs.check_body.Given as goal

abbrev pub invariant-loop-at : goal.invariant-loop-at
invariant-loop-at l = (q : Progress₂) × Stands l.text l.places l.from l.first q l.p l.at l.n l.declared

abbrev pub decreases-loop-at : goal.decreases-loop-at
decreases-loop-at l = length (drop l.at l.text)
