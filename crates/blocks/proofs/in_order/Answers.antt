-- `blocks::in_order`: what is left to test answers for the whole.
use mathlib.Core.Path.{◌≡◌, refl, ap}
use Prim.Native.Nat.{suc, ◌+◌}
use native.Mathlib.Numerals.{add-one}
use native.Mathlib.Omega.{arith}
use borrow.Author.Tests.{le-leb, lt-leb}
use Rattle.laws.proofs.FoldLaws.{all-fails, all-goes-on, all-passed}
use Rattle.layout.specs.Layout.{first_of}
use Rattle.blocks.specs.Blocks.{in_order}
use Rattle.blocks.proofs.in_order.Goals as goal

pub loop-s-init : goal.loop-s-init
loop-s-init c = refl

pub overflow_add-s : goal.overflow_add-s
overflow_add-s c = omega arith

pub returns-then-first_of : goal.returns-then-first_of
unfolding in_order
returns-then-first_of c = let args = c.args in
    let loop = c.loop-s in
    let loop-test = c.loop-s-test in
    let i = args.i in
    let t = args.t.now in
    let s = loop.s in
    let e : first_of t i (s + 1) ≡ first_of t i (suc s) = ap (first_of t i) (add-one s) in
    all-fails (in_order t i) s args.states loop.invariant loop-test.true (lt-leb (first_of t i s) (first_of t i (suc s)) (omega arith))

pub overflow_step-s : goal.overflow_step-s
overflow_step-s c = omega arith

pub loop-s-smaller : goal.loop-s-smaller
loop-s-smaller c = omega arith

pub loop-s-preserved : goal.loop-s-preserved
unfolding in_order
loop-s-preserved c = let args = c.args in
    let loop = c.loop-s in
    let loop-test = c.loop-s-test in
    let i = args.i in
    let t = args.t.now in
    let s = loop.s in
    let e : first_of t i (s + 1) ≡ first_of t i (suc s) = ap (first_of t i) (add-one s) in
    all-goes-on (in_order t i) s args.states loop.invariant loop-test.true (le-leb (first_of t i s) (first_of t i (suc s)) (omega arith))

pub returns : goal.returns
returns c = let args = c.args in
    let loop = c.loop-s in
    all-passed (in_order args.t.now args.i) loop.s args.states loop.invariant c.loop-s-test.false
