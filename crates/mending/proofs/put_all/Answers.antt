-- `mending::put_all`: component by component.
use mathlib.Core.Path.{◌≡◌, refl, ◌∙◌}
use native.Mathlib.Omega.{arith}
use native.Mathlib.Numerals.{add-one}
use Rattle.layout.specs.Layout.{count_of}
use Rattle.layout.proofs.ImageIsSane.{count-below}
use Rattle.mending.proofs.Whole.{start-long, count-read, at_first, at-comp, past-comp, whole}
use Rattle.mending.proofs.put_all.Goals as goal

pub count_of-count-requires : goal.count_of-count-requires
count_of-count-requires c = start-long c.requires

pub loop-i-init : goal.loop-i-init
loop-i-init c = (refl, omega arith, λ p e. at_first p)

pub put_component-w-requires : goal.put_component-w-requires
put_component-w-requires c = let l = c.loop-i in
    let p = c.requires in
    let e = c.count_of-count.ensures ∙ count-read p in
    at-comp p l.t l.i l.w (omega (arith, c.loop-i-test.true, e)) (l.invariant.2 p e)

pub overflow_step-i : goal.overflow_step-i
overflow_step-i c = let p = c.requires in
    omega (arith, c.loop-i-test.true, c.count_of-count.ensures, count-read p, count-below p.old p.work.image)

pub loop-i-preserved : goal.loop-i-preserved
loop-i-preserved c = let q = c.put_component-w in
    let l = c.loop-i in
    let h = c.loop-i-test.true in (
      q.auto.t ∙ l.invariant.0,
      omega (arith, h),
      λ p e.
          let r = l.invariant.2 p e in
          rw (add-one l.i) (past-comp p l.t l.i l.w (omega (arith, h, e)) r _ _
          (q.ensures (at-comp p l.t l.i l.w (omega (arith, h, e)) r))),
    )

pub returns : goal.returns
returns c p = let l = c.loop-i in
    let e = c.count_of-count.ensures ∙ count-read p in
    let z : l.i ≡ count_of p.old = omega (arith, c.loop-i-test.false, l.invariant.1, e) in
    whole p l.t l.w (rw z at (l.invariant.2 p e))
