-- What each turn of the loop of `marks::set_of` keeps.
use Prim.Native.Nat.{◌-◌, ◌≤◌}
use mathlib.Core.Bool.{false}
use lib.ListN.{get_or}
use Rattle.marks.specs.Marks.{rows_of_marks}
use Rattle.marks.proofs.Filling.{Members}
use Rattle.marks.proofs.set_of.Given as goal

abbrev pub invariant-loop-j : goal.invariant-loop-j
invariant-loop-j l = (l.j ≤ rows_of_marks) × Members (λ b. get_or l.row b false) l.j l.all

abbrev pub decreases-loop-j : goal.decreases-loop-j
decreases-loop-j l = rows_of_marks - l.j
