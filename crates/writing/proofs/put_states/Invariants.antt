-- What each turn of the loop of `writing::put_states` keeps.
use Prim.Native.Nat.{◌-◌}
use Rattle.print.proofs.LaidLaws.{Left}
use Rattle.laws.specs.Fold.{spread}
use Rattle.model.specs.Text.{row_lines}
use Rattle.layout.specs.Image.{rows_leaving, comp_of}
use Rattle.writing.proofs.put_states.Given as goal

abbrev pub invariant-loop-s : goal.invariant-loop-s
invariant-loop-s l = Left l.initial.out l.at (row_lines (comp_of l.t l.i).rows) l.out l.next (row_lines (spread (rows_leaving l.t l.i) l.s (l.states - l.s)))

abbrev pub decreases-loop-s : goal.decreases-loop-s
decreases-loop-s l = l.states - l.s
