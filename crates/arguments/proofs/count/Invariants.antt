-- How many of five are left goes down.
use Rattle.std.proofs.Common.{◌-◌}
use Rattle.arguments.proofs.count.Given as goal

abbrev pub decreases-loop-k : goal.decreases-loop-k
decreases-loop-k g l = 5 - l.k
