-- `lacking::walk_set`: what is walked and what is left make the whole.
use mathlib.Core.Path.{refl, ◌∙◌}
use native.Mathlib.Omega.{arith}
use Rattle.answer.specs.Limits.{max_actions}
use Rattle.lacking.specs.Walk.{out_of, cell_in, cells_in}
use Rattle.lacking.proofs.WalkLaws.{walk-room, walk-on, walk_end}
use Rattle.lacking.proofs.walk_set.Goals as goal

pub loop-a-init : goal.loop-a-init
unfolding cells_in
loop-a-init c = (refl, refl)

pub walk_action-m-requires : goal.walk_action-m-requires
walk_action-m-requires c = let l = c.loop-a in
    let h = c.loop-a-test.true in (
      c.requires.0,
      c.requires.1,
      h,
      walk-room _ (cell_in c.args.lacking c.args.i c.args.s) l.a max_actions (out_of l.m l.list) _ h l.invariant.1 c.requires.2,
    )

pub overflow_step-a : goal.overflow_step-a
overflow_step-a c = omega (arith, c.loop-a-test.true)

pub loop-a-preserved : goal.loop-a-preserved
loop-a-preserved c = let w = c.walk_action-m in
    let l = c.loop-a in (
      w.auto.list ∙ l.invariant.0,
      walk-on _ (cell_in c.args.lacking c.args.i c.args.s) l.a max_actions (out_of l.m l.list) _ _
          c.loop-a-test.true l.invariant.1 w.ensures,
    )

pub returns : goal.returns
returns c = let l = c.loop-a in
    walk_end _ (cell_in c.args.lacking c.args.i c.args.s) l.a max_actions (out_of l.m l.list) _ c.loop-a-test.false l.invariant.1
