-- What each turn of the loop of `feed::fed` keeps.
use Rattle.feed.specs.Supply.{lent}
use Rattle.feed.proofs.Feeding.{Walking}
use Rattle.feed.proofs.fed.Given as goal

abbrev pub invariant-loop-left : goal.invariant-loop-left
invariant-loop-left l = Walking (lent l.from l.text l.numbers) l.w l.initial.at l.initial.used l.initial.values l.left l.at l.used l.values

abbrev pub decreases-loop-left : goal.decreases-loop-left
decreases-loop-left l = l.left
