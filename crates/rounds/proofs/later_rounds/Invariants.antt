-- What each turn of the loop of `rounds::later_rounds` keeps.
use Rattle.feed.specs.Supply.{lent}
use Rattle.rounds.proofs.Going.{Going}
use Rattle.rounds.proofs.later_rounds.Given as goal

abbrev pub invariant-loop-k : goal.invariant-loop-k
invariant-loop-k l = Going l.t (lent l.from l.text l.numbers) l.rounds l.initial.state l.initial.at l.initial.used l.initial.values l.state l.at l.used l.values l.k
