-- `ticks::age` meets its contract: the clocks that are no longer left have fallen, the others stand as they were.
use mathlib.Core.Path.{◌≡◌, ap, ◌∙◌}
use native.Mathlib.Omega.{arith}
use mir.Val.{to_z, of_z}
use mir.ValLaws.{to_z-of_z}
use mir.Syntax.{w64}
use Rattle.iosa.specs.TimedExactly.{value_of}
use Rattle.members.proofs.Walk.{Front, Rest, front, rest}
use Rattle.ticks.specs.Ticks.{aged_one}
use Rattle.ticks.proofs.Falling.{tick-back, tick-through}
use Rattle.ticks.proofs.InPlace.{aging-first, aging-next, aging-end}
use Rattle.ticks.proofs.age.Goals as goal
use Rattle.ticks.proofs.age.Goals.{After-lowest-k, After-minus-left}

first : (c : After-lowest-k) → Front c.loop-left.left c.lowest-k.result
first c = front _ c.loop-left.invariant.fits c.loop-left-test.true _ c.lowest-k.ensures

without : (c : After-minus-left)
    → Rest c.loop-left.left c.lowest-k.result c.minus-left.result
without c =
    rest _ c.loop-left.invariant.fits c.loop-left-test.true _ c.lowest-k.ensures _ _ c.single.ensures c.minus-left.ensures

pub loop-left-init : goal.loop-left-init
loop-left-init c = aging-first _ _ _ c.ranges.d.fits

pub offset_bounds-values-k : goal.offset_bounds-values-k
offset_bounds-values-k c = omega (arith, (first c).below)

pub slice_copy_out-z : goal.slice_copy_out-z
slice_copy_out-z c = omega (arith, (first (goal.at.slice_copy_out-z c).After-lowest-k).below, c.loop-left.invariant.size, c.requires.0.count)

pub aged_one-requires : goal.aged_one-requires
aged_one-requires c = let l = c.loop-left in
    let k = c.lowest-k.result in
    let e = l.invariant.stays k (first (goal.at.aged_one-requires c).After-lowest-k).member in
    ((first (goal.at.aged_one-requires c).After-lowest-k).below, tick-through _ c.requires.1, λ h. tick-through (value_of l.values k) (rw e (c.requires.0.each k h)))

pub offset_bounds-values-k-in-loop-left : goal.offset_bounds-values-k-in-loop-left
offset_bounds-values-k-in-loop-left c = omega (arith, (first (goal.at.offset_bounds-values-k-in-loop-left c).After-lowest-k).below)

pub bounds-values-k : goal.bounds-values-k
bounds-values-k c = omega (arith, (first (goal.at.bounds-values-k c).After-lowest-k).below, c.loop-left.invariant.size, c.requires.0.count)

pub single-requires : goal.single-requires
single-requires c = (first (goal.at.single-requires c).After-lowest-k).below

pub loop-left-smaller : goal.loop-left-smaller
loop-left-smaller c = (without c).less

pub loop-left-preserved : goal.loop-left-preserved
loop-left-preserved c = let l = c.loop-left in
    let k = c.lowest-k.result in
    let z = value_of l.values k in
    let ez : to_z w64 (of_z w64 z) ≡ z = to_z-of_z w64 z (record { sfits = c.z-1.given }) in
    let r = c.aged_one.result in
    let er : to_z w64 (of_z w64 r) ≡ aged_one c.args.d (to_z w64 (of_z w64 c.args.v)) k (value_of c.args.values.now k)
    = to_z-of_z w64 r (record { sfits = c.aged_one.type_inv }) ∙ c.aged_one.ensures
    ∙ ap (aged_one c.args.d (to_z w64 (of_z w64 c.args.v)) k) (ez ∙ l.invariant.stays k (first (goal.at.loop-left-preserved c).After-lowest-k).member) in
    aging-next _ _ _ _ _ l.invariant c.requires.0.count _ _ (first (goal.at.loop-left-preserved c).After-lowest-k) (without c) _ er

pub returns : goal.returns
returns c = let e = tick-back c.args.v c.requires.1 in
    rw e at (aging-end _ _ _ _ _ c.loop-left.invariant c.loop-left-test.false)
