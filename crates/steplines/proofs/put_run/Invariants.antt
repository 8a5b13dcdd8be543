-- What each turn of the loop of `steplines::put_run` keeps.
use Rattle.steplines.proofs.Rest.{Tells}
use Rattle.steplines.proofs.put_run.Given as goal

abbrev pub invariant-loop-steps : goal.invariant-loop-steps
invariant-loop-steps l = Tells l.t l.budget l.initial.cur l.initial.out l.cur l.resets l.steps l.out l.at
