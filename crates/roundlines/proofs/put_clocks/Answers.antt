-- `roundlines::put_clocks` meets its contract: the lines that are put, and those of the clocks that are left, make the whole.
use Prim.Native.Nat.{◌-◌}
use native.Mathlib.Omega.{arith}
use Rattle.print.proofs.LaidLaws.{left-all, left_as, left-room, left-next, left-none}
use Rattle.laws.proofs.TabLaws.{spread-next, spread-done}
use Rattle.answer.specs.Limits.{max_clocks}
use Rattle.roundlines.specs.Lines.{clock_part, clock_lines}
use Rattle.roundlines.proofs.put_clocks.Goals as goal

pub loop-x-init : goal.loop-x-init
unfolding clock_lines
loop-x-init c = (omega arith, left-all _ _ _ c.requires.1)

pub put_one-next-requires : goal.put_one-next-requires
put_one-next-requires c = let f = clock_part c.args.d c.args.values.now in
    (c.loop-x-test.true, c.requires.0, left-room (left_as c.loop-x.invariant.1 (f c.loop-x.x) _ (spread-next f c.loop-x.x max_clocks c.loop-x-test.true)))

pub loop-x-smaller : goal.loop-x-smaller
loop-x-smaller c = omega arith

pub loop-x-preserved : goal.loop-x-preserved
loop-x-preserved c = let f = clock_part c.args.d c.args.values.now in (
  omega arith,
  left-next (left_as c.loop-x.invariant.1 (f c.loop-x.x) _ (spread-next f c.loop-x.x max_clocks c.loop-x-test.true))
      c.put_one-next.ensures,
)

pub returns : goal.returns
returns c = left-none c.loop-x.invariant.1 (spread-done (clock_part c.args.d c.args.values.now) c.loop-x.x max_clocks c.loop-x-test.false)
