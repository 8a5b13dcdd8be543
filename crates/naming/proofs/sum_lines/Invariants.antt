-- What each turn of the loop of `naming::sum_lines` keeps.
use Prim.Native.Nat.{◌-◌}
use lib.ListN.{length}
use Rattle.naminglaws.proofs.Walks.{Summed}
use Rattle.naming.proofs.sum_lines.Given as goal

abbrev pub invariant-loop-at : goal.invariant-loop-at
invariant-loop-at l = Summed l.text l.at l.declared l.length

abbrev pub decreases-loop-at : goal.decreases-loop-at
decreases-loop-at l = length l.text - l.at
