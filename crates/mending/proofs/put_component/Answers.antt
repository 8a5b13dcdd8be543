-- `mending::put_component`: state by state, and the last first word.
use mathlib.Core.Path.{refl, ◌∙◌}
use native.Mathlib.Omega.{arith}
use Rattle.mending.proofs.Whole.{within_first, at-state, past-state, comp-done, comp-long, comp-few, comp-states, states-read}
use Rattle.mending.proofs.put_component.Goals as goal

pub block_word-states-requires : goal.block_word-states-requires
block_word-states-requires c = let p = c.requires in (comp-long p, comp-few p, omega arith)

pub loop-s-init : goal.loop-s-init
loop-s-init c = (refl, omega arith, λ p e. within_first p)

pub put_state-k-requires : goal.put_state-k-requires
put_state-k-requires c = let l = c.loop-s in
    let p = c.requires in
    let e = c.block_word-states.ensures ∙ states-read p in
    at-state p l.t l.s l.k (omega (arith, c.loop-s-test.true, e)) (l.invariant.2 p e)

pub overflow_step-s : goal.overflow_step-s
overflow_step-s c = let p = c.requires in
    omega (arith, c.loop-s-test.true, c.block_word-states.ensures, states-read p, comp-states p)

pub loop-s-preserved : goal.loop-s-preserved
loop-s-preserved c = let q = c.put_state-k in
    let l = c.loop-s in
    let h = c.loop-s-test.true in (
      q.auto.t ∙ l.invariant.0,
      omega (arith, h),
      λ p e. past-state p l.t l.s l.k (omega (arith, h, e)) (l.invariant.2 p e) _ _
          (q.ensures (at-state p l.t l.s l.k (omega (arith, h, e)) (l.invariant.2 p e))),
    )

pub put_first-requires : goal.put_first-requires
put_first-requires c = let l = c.loop-s in
    let p = c.requires in
    (omega (arith, l.invariant.0, comp-long p), comp-few p, omega (arith, c.block_word-states.ensures, states-read p, comp-states p))

pub returns : goal.returns
returns c p = let l = c.loop-s in
    let e = c.block_word-states.ensures ∙ states-read p in
    comp-done p l.t l.s l.k _ (omega (arith, c.loop-s-test.false, l.invariant.1)) e (l.invariant.2 p e) _ c.put_first.ensures
