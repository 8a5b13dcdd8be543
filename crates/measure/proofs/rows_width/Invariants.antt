-- What each turn of the loop of `measure::rows_width` keeps.
use mathlib.Core.Path.{◌≡◌}
use Prim.Native.Nat.{◌+◌, ◌-◌}
use lib.ListN.{length}
use Rattle.laws.specs.Fold.{tab}
use Rattle.model.specs.Text.{row_lines}
use Rattle.layout.specs.Image.{row_in}
use Rattle.measure.proofs.rows_width.Given as goal

abbrev pub invariant-loop-r : goal.invariant-loop-r
invariant-loop-r l = l.sum + length (row_lines (tab (row_in l.t l.s) l.r (l.hi - l.r))) ≡ length (row_lines (tab (row_in l.t l.s) l.lo (l.hi - l.lo)))

abbrev pub decreases-loop-r : goal.decreases-loop-r
decreases-loop-r l = l.hi - l.r
