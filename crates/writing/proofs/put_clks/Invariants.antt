-- What each turn of the loop of `writing::put_clks` keeps.
use Prim.Native.Nat.{◌-◌, ◌≤◌}
use Rattle.print.proofs.LaidLaws.{Left}
use Rattle.laws.specs.Fold.{spread}
use Rattle.answer.specs.Limits.{max_clocks}
use Rattle.model.specs.Text.{clk_part}
use Rattle.layout.specs.Image.{comp_of}
use Rattle.measure.specs.Measure.{clk_lines}
use Rattle.writing.proofs.put_clks.Given as goal

abbrev pub invariant-loop-x : goal.invariant-loop-x
invariant-loop-x l = (l.x ≤ max_clocks) × Left l.initial.out l.at (clk_lines (comp_of l.t l.i)) l.out l.next (spread (clk_part (comp_of l.t l.i)) l.x (max_clocks - l.x))

abbrev pub decreases-loop-x : goal.decreases-loop-x
decreases-loop-x l = max_clocks - l.x
