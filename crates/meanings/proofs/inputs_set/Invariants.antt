-- What each turn of the loop of `meanings::inputs_set` keeps.
use Prim.Native.Nat.{◌-◌}
use Rattle.meanings.proofs.Gathering.{Some}
use Rattle.meanings.proofs.inputs_set.Given as goal

abbrev pub invariant-loop-j : goal.invariant-loop-j
invariant-loop-j l = Some l.i l.set l.j

abbrev pub decreases-loop-j : goal.decreases-loop-j
decreases-loop-j l = l.count - l.j
