-- `marks::pass`: every row passed is joined with row k where it has a mark at k.
use Prim.Native.Nat.{◌-◌}
use mathlib.Core.Path.{refl}
use native.Mathlib.Omega.{arith}
use borrow.Author.Rules.{rules}
use Rattle.marks.proofs.Passing.{passing-none, passing-more, passing-all}
use Rattle.marks.proofs.pass.Goals as goal

pub loop-a-init : goal.loop-a-init
loop-a-init c = passing-none _ _ _ c.requires.0

pub join_row-requires : goal.join_row-requires
join_row-requires c = (c.loop-a.invariant.rows, search rules, search rules)

pub overflow_step-a : goal.overflow_step-a
overflow_step-a c = omega arith

pub loop-a-smaller : goal.loop-a-smaller
loop-a-smaller c = omega arith

pub loop-a-preserved : goal.loop-a-preserved
loop-a-preserved c = passing-more _ _ _ _ _ c.loop-a.invariant (search rules) _ c.join_row.ensures

pub returns : goal.returns
returns c = passing-all _ _ _ _ _ c.loop-a.invariant refl (search rules)
