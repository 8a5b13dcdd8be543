-- What each turn of the loop of `mending::raise` keeps: the words from k on are raised.
use Rattle.mending.proofs.SetsAt.{Raising}
use Rattle.mending.proofs.raise.Given as goal

abbrev pub invariant-loop-k : goal.invariant-loop-k
invariant-loop-k l = Raising l.initial.t l.t l.words l.by l.k
