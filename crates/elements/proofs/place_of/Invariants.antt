-- What each turn of the loop of `elements::place_of` keeps.
use Prim.Native.Nat.{◌-◌}
use Rattle.elements.proofs.PartLaws.{Looking}
use Rattle.elements.proofs.place_of.Given as goal

abbrev pub invariant-loop-j : goal.invariant-loop-j
invariant-loop-j l = Looking l.i l.v l.j

abbrev pub decreases-loop-j : goal.decreases-loop-j
decreases-loop-j l = l.count - l.j
