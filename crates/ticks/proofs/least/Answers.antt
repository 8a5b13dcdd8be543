-- `ticks::least` meets its contract: what is found among the clocks passed.
use Rattle.members.proofs.Walk.{Front, Rest, front, rest}
use Rattle.ticks.proofs.Chosen.{walked-first, walked-bound, walked_next, walked_all, best-end}
use Rattle.ticks.proofs.least.Goals as goal
use Rattle.ticks.proofs.least.Goals.{After-lowest-k, After-minus-left}

first : (c : After-lowest-k) → Front c.loop-left.left c.lowest-k.result
first c = front _ c.loop-left.invariant.fits c.loop-left-test.true _ c.lowest-k.ensures

without : (c : After-minus-left)
    → Rest c.loop-left.left c.lowest-k.result c.minus-left.result
without c =
    rest _ c.loop-left.invariant.fits c.loop-left-test.true _ c.lowest-k.ensures _ _ c.single.ensures c.minus-left.ensures

pub loop-left-init : goal.loop-left-init
loop-left-init c = walked-first _ _ c.ranges.e.fits

pub better-best-requires : goal.better-best-requires
better-best-requires c = (c.requires, walked-bound _ _ _ _ c.loop-left.invariant, (first c).below)

pub single-requires : goal.single-requires
single-requires c = (first (goal.at.single-requires c).After-lowest-k).below

pub loop-left-smaller : goal.loop-left-smaller
loop-left-smaller c = (without c).less

pub loop-left-preserved : goal.loop-left-preserved
loop-left-preserved c = walked_next _ _ _ _ c.loop-left.invariant _ _ (first (goal.at.loop-left-preserved c).After-lowest-k) (without c) _ c.better-best.ensures

pub returns : goal.returns
returns c = let l = c.loop-left in best-end _ _ l.best (walked_all _ _ _ _ l.invariant c.loop-left-test.false)
