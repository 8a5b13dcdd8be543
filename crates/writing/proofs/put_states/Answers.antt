-- `writing::put_states` meets its contract: the lines that are put, and those of the states that are left, make the whole.
use Prim.Native.Nat.{◌+◌, ◌≤◌}
use native.Mathlib.Omega.{arith}
use Rattle.print.proofs.LaidLaws.{left-all, left_as, left_is, left-room, left-next, left-none}
use Rattle.answer.specs.Limits.{max_states}
use Rattle.layout.specs.Layout.{block_word}
use Rattle.writing.proofs.Parts.{states-all, states-next, states-done}
use Rattle.writing.proofs.put_states.Goals as goal

pub block_word-states-requires : goal.block_word-states-requires
block_word-states-requires c =
    (c.requires.0.long, c.requires.1, omega arith)

pub loop-s-init : goal.loop-s-init
loop-s-init c =
    left_is (left-all _ _ _ c.requires.2) _ (states-all c.args.t.now c.args.i c.block_word-states.result c.block_word-states.ensures)

pub first_of-lo-requires : goal.first_of-lo-requires
first_of-lo-requires c =
    let few : block_word c.args.t.now c.args.i 0 ≤ max_states = c.requires.0.states c.args.i c.requires.1 in
    (c.requires.0.long, c.requires.1, omega (arith, few))

pub first_of-hi-requires : goal.first_of-hi-requires
first_of-hi-requires c =
    let few : block_word c.args.t.now c.args.i 0 ≤ max_states = c.requires.0.states c.args.i c.requires.1 in
    (c.requires.0.long, c.requires.1, omega (arith, few))

pub put_rows-next-requires : goal.put_rows-next-requires
put_rows-next-requires c =
    let few : block_word c.args.t.now c.args.i 0 ≤ max_states = c.requires.0.states c.args.i c.requires.1 in
    let a = c.args in
    let l = c.loop-s in
    let e = c.requires.0.firsts a.i (l.s + 1) c.requires.1 (omega (arith, few, c.block_word-states.ensures)) in
    let rows = left_as l.invariant _ _
    (states-next a.t.now a.i l.s c.block_word-states.result _ _ c.first_of-lo.ensures c.first_of-hi.ensures c.loop-s-test.true) in
    (c.requires.0.long, omega (arith, c.first_of-hi.ensures, e), left-room rows)

pub loop-s-smaller : goal.loop-s-smaller
loop-s-smaller c =
    omega arith

pub loop-s-preserved : goal.loop-s-preserved
loop-s-preserved c =
    let a = c.args in
    let l = c.loop-s in
    let rows = left_as l.invariant _ _
    (states-next a.t.now a.i l.s c.block_word-states.result _ _ c.first_of-lo.ensures c.first_of-hi.ensures c.loop-s-test.true) in
    left-next rows c.put_rows-next.ensures

pub returns : goal.returns
returns c =
    let l = c.loop-s in
    left-none l.invariant (states-done c.args.t.now c.args.i l.s c.block_word-states.result c.loop-s-test.false)
