-- What each turn of the loop of `settling::by_list` keeps.
use Rattle.settling.proofs.Listed.{Plays}
use Rattle.settling.proofs.by_list.Given as goal

abbrev pub invariant-loop-i : goal.invariant-loop-i
invariant-loop-i l = Plays l.t l.list l.initial.cur l.cur l.resets l.i
