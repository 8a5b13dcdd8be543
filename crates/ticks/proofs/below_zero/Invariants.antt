-- What each turn of the loop of `ticks::below_zero` keeps.
use Prim.Native.Nat.{◌^◌, ◌<◌}
use Rattle.sets.specs.Members.{word_bits}
use Rattle.members.proofs.Walk.{Awaits}
use Rattle.ticks.specs.Ticks.{negative, by_value}
use Rattle.ticks.proofs.below_zero.Given as goal

abbrev pub invariant-loop-left : goal.invariant-loop-left
invariant-loop-left l = (l.left < 2 ^ word_bits) × Awaits (by_value (negative l.e) l.values) l.left

abbrev pub decreases-loop-left : goal.decreases-loop-left
decreases-loop-left l = l.left
