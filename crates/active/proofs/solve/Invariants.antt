-- What each turn of the loop of `active::solve` keeps.
use Rattle.laws.specs.Fold.{sum}
use Rattle.active.proofs.Passes.{Between}
use Rattle.active.proofs.solve.Given as goal

abbrev pub invariant-loop : goal.invariant-loop
invariant-loop l = Between l.t l.i l.act

abbrev pub decreases-loop : goal.decreases-loop
decreases-loop l = sum l.act
