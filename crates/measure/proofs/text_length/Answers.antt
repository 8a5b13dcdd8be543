-- `measure::text_length`: what is counted and what is left make the whole.
use native.Mathlib.Omega.{arith}
use Rattle.layout.specs.Image.{comp_of}
use Rattle.measure.proofs.Lines.{comps-next, comps-done}
use Rattle.measure.proofs.Bounds.{text-most, all-comps}
use Rattle.measure.proofs.text_length.Goals as goal

pub count_of-count-requires : goal.count_of-count-requires
count_of-count-requires c = c.requires.long

pub loop-i-init : goal.loop-i-init
loop-i-init c = omega (arith, all-comps c.args.t.now c.count_of-count.result c.count_of-count.ensures)

pub comp_width-sum-requires : goal.comp_width-sum-requires
comp_width-sum-requires c = (c.requires, omega (arith, c.requires.count))

pub overflow_add-sum : goal.overflow_add-sum
overflow_add-sum c = let args = c.args in
    let the-pre = c.requires in
    let count-of = c.count_of-count in
    let loop = c.loop-i in
    let t = args.t.now in
    omega (arith, comps-next (comp_of t) loop.i count-of.result c.loop-i-test.true, text-most t (the-pre))

pub overflow_step-i : goal.overflow_step-i
overflow_step-i c = omega arith

pub loop-i-smaller : goal.loop-i-smaller
loop-i-smaller c = omega arith

pub loop-i-preserved : goal.loop-i-preserved
loop-i-preserved c = let args = c.args in
    let count-of = c.count_of-count in
    let loop = c.loop-i in
    omega (arith, comps-next (comp_of args.t.now) loop.i count-of.result c.loop-i-test.true)

pub returns : goal.returns
returns c = omega (arith, comps-done (comp_of c.args.t.now) c.loop-i.i c.count_of-count.result c.loop-i-test.false)
