-- What each turn of the loop of `print::put_set` keeps.
use Prim.Native.Nat.{◌^◌, ◌<◌}
use Rattle.sets.specs.Members.{word_bits}
use Rattle.print.proofs.LaidLaws.{Left}
use Rattle.print.proofs.PrintLaws.{clocks_in, each}
use Rattle.print.proofs.put_set.Given as goal

abbrev pub invariant-loop-left : goal.invariant-loop-left
invariant-loop-left l = (l.left < 2 ^ word_bits) × Left l.initial.out l.initial.next (each (clocks_in l.initial.left)) l.out l.next (each (clocks_in l.left))

abbrev pub decreases-loop-left : goal.decreases-loop-left
decreases-loop-left l = l.left
