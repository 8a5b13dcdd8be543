-- `marks::table_of` meets its contract: every row that is no longer left is the row of its set.
use native.Mathlib.Omega.{arith}
use Rattle.members.proofs.Walk.{Front, Rest, front, rest}
use Rattle.marks.proofs.Rows.{filling-first, filling-next, filling-all}
use Rattle.marks.proofs.table_of.Goals as goal
use Rattle.marks.proofs.table_of.Goals.{After-lowest-x, After-minus-left}

first : (c : After-lowest-x) → Front c.loop-left.left c.lowest-x.result
first c = front _ c.loop-left.invariant.fits c.loop-left-test.true _ c.lowest-x.ensures

without : (c : After-minus-left) → Rest c.loop-left.left c.lowest-x.result c.minus-left.result
without c = rest _ c.loop-left.invariant.fits c.loop-left-test.true _ c.lowest-x.ensures _ _ c.single.ensures c.minus-left.ensures

pub loop-left-init : goal.loop-left-init
loop-left-init c = filling-first _ _ c.ranges.w.fits

pub offset_bounds-s-a : goal.offset_bounds-s-a
offset_bounds-s-a c = omega (arith, (first (goal.at.offset_bounds-s-a c).After-lowest-x).below)

pub bounds-s-a : goal.bounds-s-a
bounds-s-a c = omega (arith, (first (goal.at.bounds-s-a c).After-lowest-x).below, c.requires)

pub offset_bounds-next-a : goal.offset_bounds-next-a
offset_bounds-next-a c = omega (arith, (first (goal.at.offset_bounds-next-a c).After-lowest-x).below)

pub bounds-next-a : goal.bounds-next-a
bounds-next-a c = omega (arith, (first (goal.at.bounds-next-a c).After-lowest-x).below)

pub single-requires : goal.single-requires
single-requires c = (first (goal.at.single-requires c).After-lowest-x).below

pub loop-left-smaller : goal.loop-left-smaller
loop-left-smaller c = (without (goal.at.loop-left-smaller c).After-minus-left).less

pub loop-left-preserved : goal.loop-left-preserved
loop-left-preserved c =
    let at = goal.at.loop-left-preserved c in
    filling-next _ _ _ _ c.loop-left.invariant _ _ (first at.After-lowest-x) (without at.After-minus-left) _ c.row_of.ensures

pub returns : goal.returns
returns c = filling-all _ _ _ _ c.loop-left.invariant c.loop-left-test.false
