-- `lacking::walk_component`: state by state, what is walked and what is left make the whole.
use mathlib.Core.Path.{refl, ◌∙◌}
use native.Mathlib.Omega.{arith}
use Rattle.rows.proofs.Ready.{word-ready}
use Rattle.layout.proofs.ImageIsSane.{comp-ranges}
use Rattle.lacking.specs.Walk.{out_of}
use Rattle.lacking.proofs.WalkLaws.{walk-room, walk-on, walk_end, by-states}
use Rattle.lacking.proofs.walk_component.Invariants.{at}
use Rattle.lacking.proofs.walk_component.Goals as goal

pub block_word-states-requires : goal.block_word-states-requires
block_word-states-requires c = word-ready _ c.requires.0 _ c.requires.1 0 (omega arith)

pub loop-s-init : goal.loop-s-init
loop-s-init c = (refl, by-states _ _ _ _ c.block_word-states.ensures _)

pub walk_state-m-requires : goal.walk_state-m-requires
walk_state-m-requires c = let l = c.loop-s in
    let h = c.loop-s-test.true in (
      c.requires.0,
      c.requires.1,
      omega (arith, h, c.block_word-states.ensures),
      walk-room _ (at c.args.t.now c.args.i) l.s c.block_word-states.result (out_of l.m l.list) _ h l.invariant.1 c.requires.2,
    )

pub overflow_step-s : goal.overflow_step-s
overflow_step-s c = omega (arith, c.loop-s-test.true, c.block_word-states.ensures, (comp-ranges _ c.requires.0 _ c.requires.1).states)

pub loop-s-preserved : goal.loop-s-preserved
loop-s-preserved c = let w = c.walk_state-m in
    let l = c.loop-s in (
      w.auto.list ∙ l.invariant.0,
      walk-on _ (at c.args.t.now c.args.i) l.s c.block_word-states.result (out_of l.m l.list) _ _
          c.loop-s-test.true l.invariant.1 w.ensures,
    )

pub returns : goal.returns
returns c = let l = c.loop-s in
    walk_end _ (at c.args.t.now c.args.i) l.s c.block_word-states.result (out_of l.m l.list) _ c.loop-s-test.false l.invariant.1
