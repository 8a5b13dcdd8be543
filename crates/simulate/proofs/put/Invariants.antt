use Prim.Native.Nat.{◌≤◌}
use lib.IntN.{pos}
use Rattle.answer.specs.Limits.{max_clocks}
use Rattle.simulation.specs.Call.{put_at}
use Rattle.simulate.proofs.InPlace.{Placed}
use Rattle.simulate.proofs.put.Given as goal

abbrev pub invariant-loop-x : goal.invariant-loop-x
invariant-loop-x l = (l.x ≤ max_clocks) × Placed (put_at l.d l.values) (pos 0) l.initial.clocks l.x l.clocks
