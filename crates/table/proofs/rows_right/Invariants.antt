-- What each turn of the loop of `table::rows_right` keeps.
use mathlib.Core.Path.{◌≡◌}
use Prim.Native.Nat.{◌-◌}
use Rattle.laws.specs.Fold.{all}
use Rattle.table.specs.Rows.{comp_rows_right, rows_right}
use Rattle.table.proofs.rows_right.Given as goal

abbrev pub invariant-loop-i : goal.invariant-loop-i
invariant-loop-i l = all (comp_rows_right l.t) l.i l.count ≡ rows_right l.t

abbrev pub decreases-loop-i : goal.decreases-loop-i
decreases-loop-i l = l.count - l.i
