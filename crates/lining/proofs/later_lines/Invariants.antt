-- What each turn of the loop of `lining::later_lines` keeps.
use Rattle.feed.specs.Supply.{lent}
use Rattle.rounds.proofs.Going.{Going}
use Rattle.lining.proofs.later_lines.Given as goal

abbrev pub invariant-loop-k : goal.invariant-loop-k
invariant-loop-k l = Going l.t (lent l.from l.text l.numbers) l.rounds l.initial.state l.initial.at l.initial.used l.initial.values l.state l.at l.used l.values l.k
