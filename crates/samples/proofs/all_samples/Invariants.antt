-- What each turn of the loop of `samples::all_samples` keeps.
use Prim.Native.Nat.{◌-◌}
use lib.ListN.{length}
use Rattle.samples.proofs.LineLaws.{Turns}
use Rattle.samples.proofs.all_samples.Given as goal

abbrev pub invariant-loop-at : goal.invariant-loop-at
invariant-loop-at l = Turns l.text l.initial.at l.at

abbrev pub decreases-loop-at : goal.decreases-loop-at
decreases-loop-at l = length l.text - l.at
