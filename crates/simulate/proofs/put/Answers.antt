-- `simulate::put` meets its contract: the places below x are written, the others stand as they were.
use mathlib.Core.Path.{◌≡◌, ap₂, ◌∙◌}
use mathlib.Core.Bool.{cond}
use native.Mathlib.Omega.{arith}
use borrow.Author.Rules.{rules}
use lib.IntN.{ℤ}
use mir.Syntax.{w64}
use mir.Val.{to_z, of_z}
use mir.ValLaws.{to_z-of_z}
use Rattle.laws.specs.Sets.{has}
use Rattle.iosa.specs.TimedExactly.{value_of}
use Rattle.simulation.specs.Call.{put_at}
use Rattle.simulate.proofs.InPlace.{placed-none, placed-more, placed-all}
use Rattle.simulate.proofs.put.Goals as goal

pub loop-x-init : goal.loop-x-init
loop-x-init c = (search rules, placed-none _ _ _)

pub bounds-clocks-x : goal.bounds-clocks-x
bounds-clocks-x c = omega (arith, c.loop-x.invariant.1.size, c.requires.1)

pub loop-x-preserved : goal.loop-x-preserved
unfolding put_at
loop-x-preserved c = let a = c.args in
    let w = c.loop-x.invariant.1 in
    let x = c.loop-x.x in
    let v = value_of a.values.now x in
    let z = value_of c.loop-x.clocks x in
    let ev : to_z w64 (of_z w64 v) ≡ v = to_z-of_z w64 v (record { sfits = c.v-1.given }) in
    let ez : to_z w64 (of_z w64 z) ≡ value_of a.clocks.now x = to_z-of_z w64 z (record { sfits = c.z-1.given }) ∙ w.rest x (omega arith) in
    let er = to_z-of_z w64 c.put_one.result (record { sfits = c.put_one.type_inv }) ∙ c.put_one.ensures ∙ ap₂ (λ (p q : ℤ). cond (has a.d x) p q) ev ez in
    (search rules, placed-more _ _ _ _ _ w _ (omega (arith, c.requires.1)) er)

pub returns : goal.returns
returns c = placed-all _ _ _ _ _ c.loop-x.invariant.1 (omega (arith, c.requires.1, c.loop-x-test.false))
