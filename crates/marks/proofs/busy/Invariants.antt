-- What each turn of the loop of `marks::busy` keeps.
use mathlib.Core.Bool.{Bool, not}
use mathlib.Core.List.{List}
use Prim.Native.Nat.{ℕ, ◌-◌, ◌≤◌}
use lib.ListN.{get_or}
use lib.Dec.{eqb}
use Rattle.laws.specs.Sets.{only, ◌∖◌}
use Rattle.marks.specs.Marks.{rows_of_marks}
use Rattle.marks.proofs.Filling.{Members}
use Rattle.marks.proofs.busy.Given as goal

abbrev pub elsewhere : List ℕ → ℕ → Bool
elsewhere s k = not (eqb (get_or s k 0 ∖ only k) 0)

abbrev pub invariant-loop-k : goal.invariant-loop-k
invariant-loop-k l = (l.k ≤ rows_of_marks) × Members (elsewhere l.s) l.k l.all

abbrev pub decreases-loop-k : goal.decreases-loop-k
decreases-loop-k l = rows_of_marks - l.k
