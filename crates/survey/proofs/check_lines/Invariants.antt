-- What each turn of the loop of `survey::check_lines` keeps.
use lib.ListN.{length, drop}
use Rattle.model.specs.Reading.{Progress}
use Rattle.survey.proofs.Turns.{Stands}
use Rattle.survey.proofs.check_lines.Given as goal

abbrev pub invariant-loop-at : goal.invariant-loop-at
invariant-loop-at l = (q : Progress) × Stands l.text q l.p l.at l.n

abbrev pub decreases-loop-at : goal.decreases-loop-at
decreases-loop-at l = length (drop l.at l.text)
