-- What each turn of the loop of `names::old_length` keeps.
use Prim.Native.Nat.{◌-◌}
use lib.ListN.{length}
use Rattle.cutlaws.proofs.Copies.{Measured}
use Rattle.names.proofs.old_length.Given as goal

abbrev pub invariant-loop-at : goal.invariant-loop-at
invariant-loop-at l = Measured l.text l.places l.from l.at l.sum

abbrev pub decreases-loop-at : goal.decreases-loop-at
decreases-loop-at l = length l.text - l.at
