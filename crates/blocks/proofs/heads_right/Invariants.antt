-- What each turn of the loop of `blocks::heads_right` keeps.
use mathlib.Core.Path.{◌≡◌}
use Prim.Native.Nat.{◌-◌}
use Rattle.laws.specs.Fold.{all}
use Rattle.blocks.specs.Blocks.{head_right}
use Rattle.blocks.proofs.heads_right.Given as goal

abbrev pub invariant-loop-i : goal.invariant-loop-i
invariant-loop-i l = all (head_right l.t) l.i l.count ≡ all (head_right l.t) 0 l.count

abbrev pub decreases-loop-i : goal.decreases-loop-i
decreases-loop-i l = l.count - l.i
