-- What each turn of the loop of `planting::put_lines` keeps.
use lib.ListN.{length, drop}
use Rattle.planting.proofs.LineWalks.{Rowing}
use Rattle.planting.proofs.put_lines.Given as goal

abbrev pub invariant-loop-at : goal.invariant-loop-at
invariant-loop-at l = Rowing l.text l.words l.count l.initial.into l.into l.n l.k l.at

abbrev pub decreases-loop-at : goal.decreases-loop-at
decreases-loop-at l = length (drop l.at l.text)
