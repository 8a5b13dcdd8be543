-- What each turn of the loop of `treetests::input_rows` keeps.
use lib.ListN.{length, drop}
use Rattle.treetests.proofs.PassLaws.{Storing}
use Rattle.treetests.proofs.input_rows.Given as goal

abbrev pub invariant-loop-at : goal.invariant-loop-at
invariant-loop-at l = Storing l.text l.rows l.at

abbrev pub decreases-loop-at : goal.decreases-loop-at
decreases-loop-at l = length (drop l.at l.text)
