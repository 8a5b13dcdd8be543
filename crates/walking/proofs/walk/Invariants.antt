-- What each turn of the loop of `walking::walk` keeps.
use Rattle.walking.proofs.Going.{Going}
use Rattle.walking.proofs.walk.Given as goal

abbrev pub invariant-loop-i : goal.invariant-loop-i
invariant-loop-i l = Going l.t l.path l.cur l.i
