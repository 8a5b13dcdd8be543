-- What each turn of the loop of `planting::put_blocks` keeps.
use lib.ListN.{length, drop}
use Rattle.planting.proofs.LineWalks.{Blocking}
use Rattle.planting.proofs.put_blocks.Given as goal

abbrev pub invariant-loop-at : goal.invariant-loop-at
invariant-loop-at l = Blocking l.text l.words l.count l.initial.into l.into l.n l.k l.i l.at

abbrev pub decreases-loop-at : goal.decreases-loop-at
decreases-loop-at l = length (drop l.at l.text)
