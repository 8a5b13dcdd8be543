-- `writing::write_text` meets its contract: the components that are put, and those that are left, make the whole.
use native.Mathlib.Omega.{arith}
use Rattle.print.proofs.LaidLaws.{left-all, left_as, left_is, left-room, left-next, left-none}
use Rattle.writing.proofs.Parts.{comps-all, comps-next, comps-done}
use Rattle.writing.proofs.write_text.Goals as goal

pub count_of-count-requires : goal.count_of-count-requires
count_of-count-requires c =
    c.requires.0.long

pub loop-i-init : goal.loop-i-init
loop-i-init c =
    left_is (left-all _ _ _ c.requires.1) _ (comps-all c.args.t.now c.count_of-count.result c.count_of-count.ensures)

pub put_comp-next-requires : goal.put_comp-next-requires
put_comp-next-requires c =
    let l = c.loop-i in
    let text = left_as l.invariant _ _ (comps-next c.args.t.now l.i c.count_of-count.result c.loop-i-test.true) in
    (c.requires.0, omega (arith, c.requires.0.count, c.count_of-count.ensures), left-room text)

pub loop-i-smaller : goal.loop-i-smaller
loop-i-smaller c =
    omega arith

pub loop-i-preserved : goal.loop-i-preserved
loop-i-preserved c =
    let l = c.loop-i in
    let text = left_as l.invariant _ _ (comps-next c.args.t.now l.i c.count_of-count.result c.loop-i-test.true) in
    left-next text c.put_comp-next.ensures

pub returns : goal.returns
returns c =
    let l = c.loop-i in
    left-none l.invariant (comps-done c.args.t.now l.i c.count_of-count.result c.loop-i-test.false)
