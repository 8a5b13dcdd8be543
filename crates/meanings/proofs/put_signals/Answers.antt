-- `meanings::put_signals` meets its contract: what is written and what is left make the whole.
use mathlib.Core.Path.{refl}
use Prim.Native.Nat.{◌+◌, ◌-◌}
use native.Mathlib.Omega.{arith}
use lib.ListN.{length-set}
use Rattle.laws.specs.Fold.{tab}
use Rattle.laws.proofs.FoldLaws.{tab-length}
use Rattle.fill.proofs.FillLaws.{fill_start, fill_on, fill_end}
use Rattle.meanings.proofs.Gathering.{put-none, put_all}
use Rattle.meanings.proofs.put_signals.Goals as goal

pub overflow_add-at : goal.overflow_add-at
overflow_add-at c = omega (arith, c.requires.1, c.requires.2)

pub returns-then-at-n-gt-ACTIONS : goal.returns-then-at-n-gt-ACTIONS
returns-then-at-n-gt-ACTIONS c = let a = c.args in
    put-none a.at (tab (λ k. a.w + k) 0 a.n) _ (let z = tab-length (λ k. a.w + k) 0 a.n in omega (arith, z, c.if-at-n-gt-ACTIONS.true))

pub loop-k-init : goal.loop-k-init
loop-k-init c = let a = c.args in (refl, fill_start (λ k. a.w + k) a.at a.n a.words.now)

pub overflow_add-words : goal.overflow_add-words
overflow_add-words c = omega (arith, c.loop-k-test.true, c.requires.1, c.requires.2)

pub loop-k-preserved : goal.loop-k-preserved
loop-k-preserved c = let l = c.loop-k in
    let a = c.args in
    (simp length-set l.invariant.0, fill_on (λ k. a.w + k) a.at a.n l.k l.words _ _ c.loop-k-test.true l.invariant.1 refl)

pub returns : goal.returns
returns c = let l = c.loop-k in
    let a = c.args in
    put_all a.at a.w a.n _ _ c.if-at-n-gt-ACTIONS.false (fill_end (λ k. a.w + k) a.at a.n l.k l.words _ c.loop-k-test.false
    l.invariant.1)
