-- `ticks::below_zero` meets its contract: whatever is below zero is left.
use mathlib.Core.Path.{sym, ap, ◌∙◌}
use native.Mathlib.Omega.{arith}
use Rattle.laws.specs.Sets.{has}
use Rattle.laws.proofs.TestLaws.{and-true}
use Rattle.members.proofs.Walk.{Front, Rest, front, rest, awaits-here, awaits-next, awaits-none}
use Rattle.timing.specs.Timed.{below_zero, check29}
use Rattle.ticks.specs.Ticks.{negative, by_value, clock_of}
use Rattle.ticks.proofs.ByValue.{told}
use Rattle.ticks.proofs.below_zero.Goals as goal
use Rattle.ticks.proofs.below_zero.Goals.{After-lowest-k, After-minus-left}

first : (c : After-lowest-k) → Front c.loop-left.left c.lowest-k.result
first c = front _ c.loop-left.invariant.0 c.loop-left-test.true _ c.lowest-k.ensures

without : (c : After-minus-left)
    → Rest c.loop-left.left c.lowest-k.result c.minus-left.result
without c =
    rest _ c.loop-left.invariant.0 c.loop-left-test.true _ c.lowest-k.ensures _ _ c.single.ensures c.minus-left.ensures

pub loop-left-init : goal.loop-left-init
unfolding negative
loop-left-init c = (c.ranges.e.fits, record { among = λ y h t. (and-true (has c.args.e y) _ t).0 })

pub offset_bounds-values-k : goal.offset_bounds-values-k
offset_bounds-values-k c = omega (arith, (first c).below)

pub bounds-values-k : goal.bounds-values-k
bounds-values-k c = omega (arith, (first c).below, c.requires)

pub is_negative-requires : goal.is_negative-requires
is_negative-requires c = (first (goal.at.is_negative-requires c).After-lowest-k).below

pub returns-then-is_negative : goal.returns-then-is_negative
unfolding check29 below_zero negative
returns-then-is_negative c = let f = negative c.args.e in
    let vs = c.args.values.now in
    ap clock_of (sym (awaits-here (by_value f vs) _ c.loop-left.invariant.1 _ (first (goal.at.returns-then-is_negative c).After-lowest-k)
    (told f vs _ (first (goal.at.returns-then-is_negative c).After-lowest-k).below (record { sfits = c.z-1.given }) _ c.is_negative.ensures ∙ c.if-is_negative.true)))

pub single-requires : goal.single-requires
single-requires c = (first (goal.at.single-requires c).After-lowest-k).below

pub loop-left-smaller : goal.loop-left-smaller
loop-left-smaller c = (without c).less

pub loop-left-preserved : goal.loop-left-preserved
loop-left-preserved c = let f = negative c.args.e in
    let vs = c.args.values.now in (
      (without c).fits,
      awaits-next (by_value f vs) _ c.loop-left.invariant.1 _ _ (without c)
          (told f vs _ (first (goal.at.loop-left-preserved c).After-lowest-k).below (record { sfits = c.z-1.given }) _ c.is_negative.ensures ∙ c.if-is_negative.false),
    )

pub returns : goal.returns
unfolding check29 below_zero negative
returns c = ap clock_of (sym (awaits-none (by_value (negative c.args.e) c.args.values.now) _ c.loop-left.invariant.1 c.loop-left-test.false))
