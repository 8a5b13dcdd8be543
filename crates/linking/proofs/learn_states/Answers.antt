-- `linking::learn_states` meets its contract: the states, one after the other.
use mathlib.Core.Path.{refl, sym, ap, ◌∙◌}
use Prim.Native.Nat.{◌+◌, ◌<◌}
use native.Mathlib.Omega.{arith}
use lib.ListN.{length}
use Rattle.laws.specs.Fold.{over}
use Rattle.laws.proofs.FoldLaws.{over-next, over-end}
use Rattle.layout.specs.Layout.{block_word}
use Rattle.layout.proofs.ImageIsSane.{comp-ranges}
use Rattle.rows.proofs.Ready.{word-ready}
use Rattle.leads.specs.Learning.{learn_state}
use Rattle.linking.proofs.Walking.{state-length, learn-by-states, mark-counts}
use borrow.Author.Rules.{rules}
use Rattle.linking.proofs.learn_states.Goals as goal

pub block_word-states-requires : goal.block_word-states-requires
block_word-states-requires c = let p = c.requires in word-ready _ p.0 _ p.1 _ (omega arith)

pub loop-s-init : goal.loop-s-init
loop-s-init c = (c.requires.3, refl)

pub bounds-seen-s : goal.bounds-seen-s
bounds-seen-s c = let p = c.requires in
    omega (arith, c.block_word-states.ensures, p.2.places, (comp-ranges _ p.0 _ p.1).states)

pub learn_state-requires : goal.learn_state-requires
learn_state-requires c = let l = c.loop-s in
    let h : l.s < block_word c.args.t.now c.args.i 0 = omega (arith, c.block_word-states.ensures) in
    (record { image = c.requires.0; inside = c.requires.1; below = h; counts = mark-counts _ _ _ c.requires.2 l.s h }, l.invariant.0)

pub loop-s-preserved : goal.loop-s-preserved
loop-s-preserved c = let l = c.loop-s in
    let a = c.args in
    let e = c.learn_state.ensures in (
      ap length e ∙ state-length a.t.now a.i l.s a.kind l.table l.invariant.0,
      ap (over (λ s. learn_state a.t.now a.i s a.kind) (l.s + 1) _) e
          ∙ sym (over-next (λ s. learn_state a.t.now a.i s a.kind) l.s _ l.table (search rules)) ∙ l.invariant.1,
    )

pub returns : goal.returns
returns c = let l = c.loop-s in
    let a = c.args in
    sym (over-end (λ s. learn_state a.t.now a.i s a.kind) l.s _ l.table (search rules)) ∙ l.invariant.1
    ∙ ap (λ n. over (λ s. learn_state a.t.now a.i s a.kind) 0 n a.table.now) c.block_word-states.ensures
    ∙ learn-by-states a.t.now c.requires.0 a.i c.requires.1 a.kind a.table.now
