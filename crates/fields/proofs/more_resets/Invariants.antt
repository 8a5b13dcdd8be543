-- What each turn of the loop of `fields::more_resets` keeps.
use Prim.Native.Nat.{◌-◌}
use lib.ListN.{length}
use Rattle.fields.specs.Resets.{with_all}
use Rattle.fields.proofs.Gather.{Gathered}
use Rattle.fields.proofs.more_resets.Given as goal

abbrev pub invariant-loop-at : goal.invariant-loop-at
invariant-loop-at l = Gathered with_all l.text l.initial.sum l.initial.at l.sum l.at

abbrev pub decreases-loop-at : goal.decreases-loop-at
decreases-loop-at l = length l.text - l.at
