-- `fill::copy_words`: what is written and what is left make the whole.
use Prim.Native.Nat.{◌+◌}
use mathlib.Core.Path.{refl}
use native.Mathlib.Omega.{arith}
use lib.ListN.{get_or, length-set}
use Rattle.fill.specs.Words.{words_from}
use Rattle.fill.proofs.FillLaws.{fill_start, fill_on, fill_end}
use Rattle.fill.proofs.copy_words.Goals as goal

pub loop-k-init : goal.loop-k-init
unfolding words_from
loop-k-init c = (refl, fill_start (λ j. get_or c.args.t.now (c.args.from + j) 0) c.args.at c.args.n c.args.into.now)

pub overflow_add-into : goal.overflow_add-into
overflow_add-into c = omega (arith, c.requires.1)

pub offset_bounds-t-from : goal.offset_bounds-t-from
offset_bounds-t-from c = omega (arith, c.requires.1)

pub bounds-t-from : goal.bounds-t-from
bounds-t-from c = omega (arith, c.requires.0)

pub overflow_add-into-in-loop-k : goal.overflow_add-into-in-loop-k
overflow_add-into-in-loop-k c = omega (arith, c.requires.3)

pub offset_bounds-into-at : goal.offset_bounds-into-at
offset_bounds-into-at c = omega (arith, c.requires.3)

pub bounds-into-at : goal.bounds-into-at
bounds-into-at c = omega (arith, c.requires.2, c.loop-k.invariant.0)

pub overflow_step-k : goal.overflow_step-k
overflow_step-k c = omega (arith, c.requires.3)

pub loop-k-smaller : goal.loop-k-smaller
loop-k-smaller c = omega arith

pub loop-k-preserved : goal.loop-k-preserved
loop-k-preserved c = let l = c.loop-k in (
  simp length-set l.invariant.0,
  fill_on (λ j. get_or c.args.t.now (c.args.from + j) 0) c.args.at c.args.n l.k l.into _ _ c.loop-k-test.true
      l.invariant.1 refl,
)

pub returns : goal.returns
returns c = let l = c.loop-k in
    fill_end (λ j. get_or c.args.t.now (c.args.from + j) 0) c.args.at c.args.n l.k l.into _ c.loop-k-test.false l.invariant.1
