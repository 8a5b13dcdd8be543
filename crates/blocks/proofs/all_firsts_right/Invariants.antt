-- What each turn of the loop of `blocks::all_firsts_right` keeps.
use mathlib.Core.Path.{◌≡◌}
use Prim.Native.Nat.{◌-◌}
use Rattle.laws.specs.Fold.{all}
use Rattle.blocks.specs.Blocks.{end_before, firsts_right}
use Rattle.blocks.proofs.all_firsts_right.Given as goal

abbrev pub invariant-loop-i : goal.invariant-loop-i
invariant-loop-i l = (all (firsts_right l.t) l.i l.count ≡ all (firsts_right l.t) 0 l.count) × (l.end ≡ end_before l.t l.i)

abbrev pub decreases-loop-i : goal.decreases-loop-i
decreases-loop-i l = l.count - l.i
