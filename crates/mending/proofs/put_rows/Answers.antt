-- `mending::put_rows`: what is put and what is left make the whole.
use mathlib.Core.Path.{refl, sym, ◌∙◌}
use native.Mathlib.Omega.{arith}
use Rattle.mending.proofs.Stepwise.{weave-on, weave-end}
use Rattle.mending.proofs.put_rows.Goals as goal

pub loop-v-init : goal.loop-v-init
loop-v-init c = (refl, omega arith, refl)

pub put_next-y-requires : goal.put_next-y-requires
put_next-y-requires c = (omega (arith, c.requires.0, c.loop-v.invariant.0), c.requires.1, omega (arith, c.requires.2, c.loop-v-test.true))

pub overflow_step-v : goal.overflow_step-v
overflow_step-v c = omega (arith, c.loop-v-test.true, c.requires.2)

pub loop-v-preserved : goal.loop-v-preserved
loop-v-preserved c = let q = c.put_next-y in
    let l = c.loop-v in (
      q.auto.t ∙ l.invariant.0,
      omega (arith, l.invariant.1),
      sym (weave-on c.args.s c.args.hi l.v c.args.end l.t _ l.y _ c.loop-v-test.true q.ensures) ∙ l.invariant.2,
    )

pub returns : goal.returns
returns c = let l = c.loop-v in
    sym (weave-end c.args.s c.args.hi l.v c.args.end l.t l.y.left l.y.r c.loop-v-test.false) ∙ l.invariant.2
