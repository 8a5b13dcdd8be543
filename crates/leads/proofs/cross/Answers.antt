-- `leads::cross` meets its contract: the places that are no longer left are crossed.
use native.Mathlib.Omega.{arith}
use Rattle.members.proofs.Walk.{Front, Rest, front, rest}
use Rattle.leads.proofs.Standing.{crossing-first, crossing-next, crossing-all}
use Rattle.leads.proofs.cross.Goals as goal
use Rattle.leads.proofs.cross.Goals.{After-lowest-x, After-minus-left}

first : (c : After-lowest-x) → Front c.loop-left.left c.lowest-x.result
first c = front _ c.loop-left.invariant.fits c.loop-left-test.true _ c.lowest-x.ensures

without : (c : After-minus-left) → Rest c.loop-left.left c.lowest-x.result c.minus-left.result
without c = rest _ c.loop-left.invariant.fits c.loop-left-test.true _ c.lowest-x.ensures _ _ c.single.ensures c.minus-left.ensures

pub loop-left-init : goal.loop-left-init
loop-left-init c = crossing-first _ _ _ c.ranges.to.fits c.requires

pub offset_bounds-table-a : goal.offset_bounds-table-a
offset_bounds-table-a c = omega (arith, (first (goal.at.offset_bounds-table-a c).After-lowest-x).below)

pub bounds-table-a : goal.bounds-table-a
bounds-table-a c = omega (arith, (first (goal.at.bounds-table-a c).After-lowest-x).below, c.loop-left.invariant.long)

pub offset_bounds-table-a-in-loop-left : goal.offset_bounds-table-a-in-loop-left
offset_bounds-table-a-in-loop-left c = omega (arith, (first (goal.at.offset_bounds-table-a-in-loop-left c).After-lowest-x).below)

pub bounds-table-a-in-loop-left : goal.bounds-table-a-in-loop-left
bounds-table-a-in-loop-left c = omega (arith, (first (goal.at.bounds-table-a-in-loop-left c).After-lowest-x).below, c.loop-left.invariant.long)

pub single-requires : goal.single-requires
single-requires c = (first (goal.at.single-requires c).After-lowest-x).below

pub loop-left-smaller : goal.loop-left-smaller
loop-left-smaller c = (without (goal.at.loop-left-smaller c).After-minus-left).less

pub loop-left-preserved : goal.loop-left-preserved
loop-left-preserved c = let at = goal.at.loop-left-preserved c in
    crossing-next c.loop-left.invariant _ _ _ (first at.After-lowest-x) (without at.After-minus-left) c.union.ensures

pub returns : goal.returns
returns c = crossing-all c.loop-left-test.false c.loop-left.invariant
