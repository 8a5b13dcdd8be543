-- What each turn of the loop of `print::put_state` keeps.
use Prim.Native.Nat.{◌-◌, ◌≤◌}
use Rattle.answer.specs.State.{numbers_from}
use Rattle.print.proofs.LaidLaws.{Left}
use Rattle.print.proofs.PrintLaws.{each}
use Rattle.print.proofs.put_state.Given as goal

abbrev pub invariant-loop-i : goal.invariant-loop-i
invariant-loop-i l = (l.i ≤ l.n) × Left l.initial.out l.initial.next (each (numbers_from l.x.parts 1 (l.n - 1))) l.out l.next (each (numbers_from l.x.parts l.i (l.n - l.i)))

abbrev pub decreases-loop-i : goal.decreases-loop-i
decreases-loop-i l = l.n - l.i
