-- What each turn of the loop of `intake::build` keeps.
use lib.ListN.{length, drop}
use Rattle.intake.proofs.Built.{Building}
use Rattle.intake.proofs.build.Given as goal

abbrev pub invariant-loop-at : goal.invariant-loop-at
invariant-loop-at l = Building l.text l.initial.table l.p l.at l.table

abbrev pub decreases-loop-at : goal.decreases-loop-at
decreases-loop-at l = length (drop l.at l.text)
