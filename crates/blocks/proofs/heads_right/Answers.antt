-- `blocks::heads_right`: what is left to test answers for the whole.
use mathlib.Core.Path.{refl, sym, ◌∙◌}
use native.Mathlib.Omega.{arith}
use Rattle.laws.proofs.FoldLaws.{all-fails, all-goes-on, all-passed}
use Rattle.blocks.specs.Blocks.{head_right}
use Rattle.blocks.proofs.heads_right.Goals as goal

pub loop-i-init : goal.loop-i-init
loop-i-init c = refl

pub returns-then-not-head_right : goal.returns-then-not-head_right
returns-then-not-head_right c = let args = c.args in
    let loop = c.loop-i in
    let loop-test = c.loop-i-test in
    let head-right = c.head_right in
    let i = loop.i in
    all-fails (head_right args.t.now) i args.count loop.invariant loop-test.true (sym head-right.ensures ∙ c.if-not-head_right.true)

pub overflow_step-i : goal.overflow_step-i
overflow_step-i c = omega arith

pub loop-i-smaller : goal.loop-i-smaller
loop-i-smaller c = omega arith

pub loop-i-preserved : goal.loop-i-preserved
loop-i-preserved c = let args = c.args in
    let loop = c.loop-i in
    let loop-test = c.loop-i-test in
    let head-right = c.head_right in
    let i = loop.i in
    all-goes-on (head_right args.t.now) i args.count loop.invariant loop-test.true (sym head-right.ensures ∙ c.if-not-head_right.false)

pub returns : goal.returns
returns c = all-passed (head_right c.args.t.now) c.loop-i.i c.args.count c.loop-i.invariant c.loop-i-test.false
