-- What each turn of the loop of `blocks::in_order` keeps.
use mathlib.Core.Path.{◌≡◌}
use Prim.Native.Nat.{◌-◌}
use Rattle.laws.specs.Fold.{all}
use Rattle.blocks.specs.Blocks.{in_order}
use Rattle.blocks.proofs.in_order.Given as goal

abbrev pub invariant-loop-s : goal.invariant-loop-s
invariant-loop-s l = all (in_order l.t l.i) l.s l.states ≡ all (in_order l.t l.i) 0 l.states

abbrev pub decreases-loop-s : goal.decreases-loop-s
decreases-loop-s l = l.states - l.s
