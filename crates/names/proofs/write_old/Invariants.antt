-- What each turn of the loop of `names::write_old` keeps.
use Prim.Native.Nat.{◌-◌}
use lib.ListN.{length}
use Rattle.print.proofs.LaidLaws.{Left}
use Rattle.named.specs.NamedText.{lines_text}
use Rattle.namelaws.specs.OldLines.{old_lines}
use Rattle.names.proofs.write_old.Given as goal

abbrev pub invariant-loop-at : goal.invariant-loop-at
invariant-loop-at l = Left l.initial.out 0 (lines_text (old_lines l.text l.places l.from)) l.out l.to (lines_text (old_lines l.text l.places l.at))

abbrev pub decreases-loop-at : goal.decreases-loop-at
decreases-loop-at l = length l.text - l.at
