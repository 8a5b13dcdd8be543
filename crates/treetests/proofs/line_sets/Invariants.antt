-- What each turn of the loop of `treetests::line_sets` keeps.
use Rattle.treetests.proofs.InputLaws.{Taking}
use Rattle.treetests.proofs.line_sets.Given as goal

abbrev pub invariant-loop-j : goal.invariant-loop-j
invariant-loop-j l = Taking l.i l.initial.s l.s l.j
