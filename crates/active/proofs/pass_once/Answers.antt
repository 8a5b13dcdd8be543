-- `active::pass_once` meets its contract: what is left of the states narrows the sets so far.
use mathlib.Core.Path.{refl, sym, ap, ◌∙◌}
use native.Mathlib.Omega.{arith}
use Rattle.laws.specs.Fold.{over}
use Rattle.laws.proofs.FoldLaws.{over-next, over-end}
use Rattle.rows.proofs.Ready.{word-ready}
use Rattle.active.specs.Narrowing.{narrow_state, pass}
use Rattle.active.proofs.Passes.{fell-on}
use borrow.Author.Rules.{rules}
use Rattle.active.proofs.pass_once.Goals as goal

pub block_word-states-requires : goal.block_word-states-requires
block_word-states-requires c = word-ready _ c.requires.0 _ c.requires.1 _ (omega arith)

pub loop-s-init : goal.loop-s-init
loop-s-init c = (search rules, refl, refl)

pub narrow_state-less-requires : goal.narrow_state-less-requires
narrow_state-less-requires c = (c.requires.0, c.requires.1, omega (arith, c.block_word-states.ensures))

pub loop-s-preserved : goal.loop-s-preserved
loop-s-preserved c = let l = c.loop-s in
    let n = c.narrow_state-less in
    let f = narrow_state c.args.t.now c.args.i in (
      search rules,
      rw n.ensures.0 (sym (over-next f l.s _ l.act (search rules)) ∙ l.invariant.1),
      fell-on _ l.act _ l.less n.result l.invariant.2 n.ensures.1,
    )

pub returns : goal.returns
unfolding pass
returns c = let l = c.loop-s in
    let f = narrow_state c.args.t.now c.args.i in (
      sym (over-end f l.s _ l.act (search rules)) ∙ l.invariant.1 ∙ ap (λ n. over f 0 n c.args.act.now)
          c.block_word-states.ensures,
      l.invariant.2,
    )
