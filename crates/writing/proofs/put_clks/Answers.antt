-- `writing::put_clks` meets its contract: the lines that are put, and those of the clocks that are left, make the whole.
use native.Mathlib.Omega.{arith}
use Rattle.print.proofs.LaidLaws.{left-all, left_as, left-room, left-next, left-none}
use Rattle.laws.proofs.TabLaws.{spread-next, spread-done}
use Rattle.answer.specs.Limits.{max_clocks}
use Rattle.model.specs.Text.{clk_part}
use Rattle.layout.specs.Image.{comp_of}
use Rattle.measure.specs.Measure.{clk_lines}
use Rattle.writing.proofs.put_clks.Goals as goal

pub loop-x-init : goal.loop-x-init
unfolding clk_lines
loop-x-init c =
    (omega arith, left-all _ _ _ c.requires.2)

pub put_clk-next-requires : goal.put_clk-next-requires
put_clk-next-requires c =
    let l = c.loop-x in
    let line = left_as l.invariant.1 _ _ (spread-next (clk_part (comp_of c.args.t.now c.args.i)) l.x max_clocks c.loop-x-test.true) in
    (c.requires.0, c.requires.1, c.loop-x-test.true, left-room line)

pub loop-x-smaller : goal.loop-x-smaller
loop-x-smaller c =
    omega arith

pub loop-x-preserved : goal.loop-x-preserved
loop-x-preserved c =
    let l = c.loop-x in
    let line = left_as l.invariant.1 _ _ (spread-next (clk_part (comp_of c.args.t.now c.args.i)) l.x max_clocks c.loop-x-test.true) in
    (omega arith, left-next line c.put_clk-next.ensures)

pub returns : goal.returns
returns c =
    let l = c.loop-x in
    left-none l.invariant.1 (spread-done (clk_part (comp_of c.args.t.now c.args.i)) l.x max_clocks c.loop-x-test.false)
