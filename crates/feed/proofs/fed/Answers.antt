-- `feed::fed` meets its contract: the clocks that are no longer left have taken a sample, the others stand as they were.
use native.Mathlib.Omega.{arith}
use mir.Syntax.{w64}
use mir.ValLaws.{to_z_pos}
use Rattle.members.proofs.Walk.{front, rest}
use Rattle.feed.proofs.Takes.{takes-small}
use Rattle.feed.proofs.Feeding.{walking-first, walking-lacks, walking-takes, walking-end}
use Rattle.feed.proofs.fed.Goals as goal

pub loop-left-init : goal.loop-left-init
loop-left-init c = walking-first _ _ _ _ _ c.ranges.w.fits c.requires.0 c.requires.1 c.requires.2

pub offset_bounds-at-i : goal.offset_bounds-at-i
offset_bounds-at-i c = omega (arith, (front _ c.loop-left.invariant.fits c.loop-left-test.true _ c.lowest-x.ensures).below)

pub bounds-at-i : goal.bounds-at-i
bounds-at-i c = omega (arith, (front _ c.loop-left.invariant.fits c.loop-left-test.true _ c.lowest-x.ensures).below, c.loop-left.invariant.at_count)

pub offset_bounds-used-i : goal.offset_bounds-used-i
offset_bounds-used-i c = omega (arith, (front _ c.loop-left.invariant.fits c.loop-left-test.true _ c.lowest-x.ensures).below)

pub bounds-used-i : goal.bounds-used-i
bounds-used-i c = omega (arith, (front _ c.loop-left.invariant.fits c.loop-left-test.true _ c.lowest-x.ensures).below, c.loop-left.invariant.used-count)

pub take-requires : goal.take-requires
take-requires c = (front _ c.loop-left.invariant.fits c.loop-left-test.true _ c.lowest-x.ensures).below

pub overflow_cast-values : goal.overflow_cast-values
overflow_cast-values c = record { sfits = takes-small _ c.take.ensures.small _ c.in-Some.is }

pub offset_bounds-values-i : goal.offset_bounds-values-i
offset_bounds-values-i c = omega (arith, (front _ c.loop-left.invariant.fits c.loop-left-test.true _ c.lowest-x.ensures).below)

pub bounds-values-i : goal.bounds-values-i
bounds-values-i c = omega (arith, (front _ c.loop-left.invariant.fits c.loop-left-test.true _ c.lowest-x.ensures).below, c.loop-left.invariant.count)

pub offset_bounds-at-i-in-Some : goal.offset_bounds-at-i-in-Some
offset_bounds-at-i-in-Some c = omega (arith, (front _ c.loop-left.invariant.fits c.loop-left-test.true _ c.lowest-x.ensures).below)

pub bounds-at-i-in-Some : goal.bounds-at-i-in-Some
bounds-at-i-in-Some c = omega (arith, (front _ c.loop-left.invariant.fits c.loop-left-test.true _ c.lowest-x.ensures).below, c.loop-left.invariant.at_count)

pub offset_bounds-used-i-in-Some : goal.offset_bounds-used-i-in-Some
offset_bounds-used-i-in-Some c = omega (arith, (front _ c.loop-left.invariant.fits c.loop-left-test.true _ c.lowest-x.ensures).below)

pub bounds-used-i-in-Some : goal.bounds-used-i-in-Some
bounds-used-i-in-Some c = omega (arith, (front _ c.loop-left.invariant.fits c.loop-left-test.true _ c.lowest-x.ensures).below, c.loop-left.invariant.used-count)

pub returns-in-None : goal.returns-in-None
returns-in-None c = walking-lacks _ _ _ _ _ _ _ _ _ c.loop-left.invariant _ (front _ c.loop-left.invariant.fits c.loop-left-test.true _ c.lowest-x.ensures) _ c.take.ensures c.in-None.is

pub single-requires : goal.single-requires
single-requires c = (front _ c.loop-left.invariant.fits c.loop-left-test.true _ c.lowest-x.ensures).below

pub loop-left-smaller : goal.loop-left-smaller
loop-left-smaller c = (rest _ c.loop-left.invariant.fits c.loop-left-test.true _ c.lowest-x.ensures _ _ c.single.ensures c.minus-left.ensures).less

pub loop-left-preserved : goal.loop-left-preserved
loop-left-preserved c =
    walking-takes _ _ _ _ _ _ _ _ _ c.loop-left.invariant _ (front _ c.loop-left.invariant.fits c.loop-left-test.true _ c.lowest-x.ensures) _ c.take.ensures _ c.in-Some.is
    _ (to_z_pos w64 _ (takes-small _ c.take.ensures.small _ c.in-Some.is)) _ (rest _ c.loop-left.invariant.fits c.loop-left-test.true _ c.lowest-x.ensures _ _ c.single.ensures c.minus-left.ensures)

pub returns : goal.returns
returns c = walking-end _ _ _ _ _ _ _ _ _ c.loop-left.invariant c.loop-left-test.false
