-- What is still to be read goes down with every read.
use Rattle.stream.proofs.skip.Given as goal

abbrev pub decreases-loop-left : goal.decreases-loop-left
decreases-loop-left g l = l.left
