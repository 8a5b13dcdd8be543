-- `lacking::walk`: component by component, what is walked and what is left make the whole.
use mathlib.Core.Path.{refl, ◌∙◌}
use native.Mathlib.Omega.{arith}
use Rattle.layout.proofs.ImageIsSane.{image-long, count-below}
use Rattle.lacking.specs.Walk.{out_of, cells_by}
use Rattle.lacking.proofs.WalkLaws.{walk-room, walk-on, walk_end}
use Rattle.lacking.proofs.LackLaws.{by-comps}
use Rattle.lacking.proofs.walk.Goals as goal

pub count_of-count-requires : goal.count_of-count-requires
count_of-count-requires c = image-long _ c.requires.0

pub loop-i-init : goal.loop-i-init
loop-i-init c = (refl, by-comps _ _ _ c.count_of-count.ensures _)

pub walk_component-m-requires : goal.walk_component-m-requires
walk_component-m-requires c = let l = c.loop-i in
    let h = c.loop-i-test.true in (
      c.requires.0,
      omega (arith, h, c.count_of-count.ensures),
      walk-room _ (cells_by c.args.t.now) l.i c.count_of-count.result (out_of l.m l.list) _ h l.invariant.1 c.requires.1,
    )

pub overflow_step-i : goal.overflow_step-i
overflow_step-i c = omega (arith, c.loop-i-test.true, c.count_of-count.ensures, count-below _ c.requires.0)

pub loop-i-preserved : goal.loop-i-preserved
loop-i-preserved c = let w = c.walk_component-m in
    let l = c.loop-i in (
      w.auto.list ∙ l.invariant.0,
      walk-on _ (cells_by c.args.t.now) l.i c.count_of-count.result (out_of l.m l.list) _ _ c.loop-i-test.true l.invariant.1 w.ensures,
    )

pub returns : goal.returns
returns c = let l = c.loop-i in
    walk_end _ (cells_by c.args.t.now) l.i c.count_of-count.result (out_of l.m l.list) _ c.loop-i-test.false l.invariant.1
