-- What each turn of the loop of `active::pass_once` keeps.
use mathlib.Core.Path.{◌≡◌}
use Prim.Native.Nat.{◌-◌, ◌≤◌}
use Rattle.laws.specs.Fold.{over}
use Rattle.active.specs.Narrowing.{narrow_state, Fell}
use Rattle.active.proofs.pass_once.Given as goal

abbrev pub invariant-loop-s : goal.invariant-loop-s
invariant-loop-s l = (l.s ≤ l.states) × (over (narrow_state l.t l.i) l.s l.states l.act ≡ over (narrow_state l.t l.i) 0 l.states l.initial.act) × Fell l.less l.initial.act l.act

abbrev pub decreases-loop-s : goal.decreases-loop-s
decreases-loop-s l = l.states - l.s
