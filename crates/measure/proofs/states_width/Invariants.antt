-- What each turn of the loop of `measure::states_width` keeps.
use mathlib.Core.Path.{◌≡◌}
use Prim.Native.Nat.{◌+◌, ◌-◌}
use lib.ListN.{length}
use Rattle.laws.specs.Fold.{spread}
use Rattle.model.specs.Text.{row_lines}
use Rattle.layout.specs.Image.{rows_leaving, comp_of}
use Rattle.measure.proofs.states_width.Given as goal

abbrev pub invariant-loop-s : goal.invariant-loop-s
invariant-loop-s l = l.sum + length (row_lines (spread (rows_leaving l.t l.i) l.s (l.states - l.s))) ≡ length (row_lines (comp_of l.t l.i).rows)

abbrev pub decreases-loop-s : goal.decreases-loop-s
decreases-loop-s l = l.states - l.s
