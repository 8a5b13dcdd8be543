-- `treelines::further_inputs` meets its contract. The loop's invariant: what is there so far, with the inputs from here on, is what there is of all.
use mathlib.Core.Path.{◌∙◌, ap}
use native.Mathlib.Omega.{arith}
use Rattle.laws.proofs.Exits.{handed-on}
use Rattle.treelines.specs.Elements.{got_inputs}
use Rattle.treelines.proofs.InputLaws.{further-begins, further-done, further-no-tab, further-no-number, further-more}
use Rattle.treelines.proofs.further_inputs.Goals as goal

pub loop-k-init : goal.loop-k-init
loop-k-init c = further-begins _ _ _ _ c.requires

pub placed-sum-requires : goal.placed-sum-requires
placed-sum-requires c = let f = c.loop-k.invariant.room in
    let l = c.loop-k-test.true in
    omega (arith, f, l)

pub returns-in_err-next : goal.returns-in_err-next
returns-in_err-next c = ap (got_inputs c.args.text.now) (handed-on _ c.from_residual.ensures.1)
    ∙ further-no-number _ _ _ _ _ _ _ c.loop-k.invariant c.loop-k-test.true _ _ c.byte.ensures
    c.in-Ok.is _ c.number.ensures _ c.in_err-next.was

pub returns-in_default : goal.returns-in_default
returns-in_default c = further-no-tab _ _ _ _ _ _ _ c.loop-k.invariant _ _ c.byte.ensures c.in_default.is

pub loop-k-preserved : goal.loop-k-preserved
loop-k-preserved c = further-more _ _ _ _ _ _ _ c.loop-k.invariant c.loop-k-test.true _ _ c.byte.ensures c.in-Ok.is _
    c.number.ensures _ _
    c.in_ok-next.was _ c.placed-sum.ensures

pub returns : goal.returns
returns c = further-done _ _ _ _ _ _ _ c.loop-k.invariant c.loop-k-test.false
