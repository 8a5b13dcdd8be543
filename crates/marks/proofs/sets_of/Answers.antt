-- `marks::sets_of` meets its contract: every set that is no longer left is that of its row.
use native.Mathlib.Omega.{arith}
use Rattle.members.proofs.Walk.{Front, Rest, front, rest}
use Rattle.marks.proofs.Rows.{taking-first, taking-next, taking-all}
use Rattle.marks.proofs.sets_of.Goals as goal
use Rattle.marks.proofs.sets_of.Goals.{After-lowest-x, After-minus-left}

first : (c : After-lowest-x) → Front c.loop-left.left c.lowest-x.result
first c = front _ c.loop-left.invariant.fits c.loop-left-test.true _ c.lowest-x.ensures

without : (c : After-minus-left) → Rest c.loop-left.left c.lowest-x.result c.minus-left.result
without c = rest _ c.loop-left.invariant.fits c.loop-left-test.true _ c.lowest-x.ensures _ _ c.single.ensures c.minus-left.ensures

pub loop-left-init : goal.loop-left-init
loop-left-init c = taking-first _ _ _ c.ranges.w.fits c.requires.1

pub offset_bounds-m-a : goal.offset_bounds-m-a
offset_bounds-m-a c = omega (arith, (first (goal.at.offset_bounds-m-a c).After-lowest-x).below)

pub bounds-m-a : goal.bounds-m-a
bounds-m-a c = omega (arith, (first (goal.at.bounds-m-a c).After-lowest-x).below, c.requires.0)

pub offset_bounds-s-a : goal.offset_bounds-s-a
offset_bounds-s-a c = omega (arith, (first (goal.at.offset_bounds-s-a c).After-lowest-x).below)

pub bounds-s-a : goal.bounds-s-a
bounds-s-a c = omega (arith, (first (goal.at.bounds-s-a c).After-lowest-x).below, c.loop-left.invariant.count)

pub single-requires : goal.single-requires
single-requires c = (first (goal.at.single-requires c).After-lowest-x).below

pub loop-left-smaller : goal.loop-left-smaller
loop-left-smaller c = (without (goal.at.loop-left-smaller c).After-minus-left).less

pub loop-left-preserved : goal.loop-left-preserved
loop-left-preserved c =
    let at = goal.at.loop-left-preserved c in
    taking-next _ _ _ _ _ c.loop-left.invariant _ _ (first at.After-lowest-x) (without at.After-minus-left) _ c.set_of.ensures

pub returns : goal.returns
returns c = taking-all _ _ _ _ _ c.loop-left.invariant c.loop-left-test.false
