-- What each turn of the loop of `roundlines::put_clocks` keeps.
use Prim.Native.Nat.{◌-◌, ◌≤◌}
use Rattle.print.proofs.LaidLaws.{Left}
use Rattle.laws.specs.Fold.{spread}
use Rattle.answer.specs.Limits.{max_clocks}
use Rattle.roundlines.specs.Lines.{clock_part, clock_lines}
use Rattle.roundlines.proofs.put_clocks.Given as goal

abbrev pub invariant-loop-x : goal.invariant-loop-x
invariant-loop-x l = (l.x ≤ max_clocks) × Left l.initial.out l.at (clock_lines l.d l.values) l.out l.next (spread (clock_part l.d l.values) l.x (max_clocks - l.x))

abbrev pub decreases-loop-x : goal.decreases-loop-x
decreases-loop-x l = max_clocks - l.x
