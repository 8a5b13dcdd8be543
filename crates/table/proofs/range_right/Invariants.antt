-- What each turn of the loop of `table::range_right` keeps.
use mathlib.Core.Path.{◌≡◌}
use Prim.Native.Nat.{◌-◌}
use Rattle.laws.specs.Fold.{all}
use Rattle.table.specs.Rows.{row_right}
use Rattle.table.proofs.range_right.Given as goal

abbrev pub invariant-loop-r : goal.invariant-loop-r
invariant-loop-r l = all (row_right l.t l.acts l.clocks l.states) l.r l.hi ≡ all (row_right l.t l.acts l.clocks l.states) l.lo l.hi

abbrev pub decreases-loop-r : goal.decreases-loop-r
decreases-loop-r l = l.hi - l.r
