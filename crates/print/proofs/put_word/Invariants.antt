-- What each turn of the loop of `print::put_word` keeps.
use Prim.Native.Nat.{◌+◌, ◌-◌, ◌≤◌}
use lib.ListN.{length, drop}
use Rattle.print.proofs.LaidLaws.{Left}
use Rattle.print.proofs.put_word.Given as goal

abbrev pub invariant-loop-i : goal.invariant-loop-i
invariant-loop-i l = (l.i ≤ length l.w) × Left l.initial.out l.at l.w l.out (l.at + l.i) (drop l.i l.w)

abbrev pub decreases-loop-i : goal.decreases-loop-i
decreases-loop-i l = length l.w - l.i
