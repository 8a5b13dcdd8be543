-- What each turn of the loop of `tell::put_numbers` keeps.
use lib.ListN.{drop}
use Rattle.print.proofs.LaidLaws.{Left}
use Rattle.print.proofs.PrintLaws.{each}
use Rattle.tell.proofs.put_numbers.Given as goal

abbrev pub invariant-loop-n : goal.invariant-loop-n
invariant-loop-n l = Left l.initial.out l.initial.next (each l.rest) l.out l.next (each (drop l.n-index l.rest))
