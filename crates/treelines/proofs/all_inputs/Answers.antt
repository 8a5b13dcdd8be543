-- `treelines::all_inputs` meets its contract. The loop's invariant: what is there so far, with the inputs from here on, is what there is of all.
use mathlib.Core.Path.{refl, sym, ◌∙◌, ap, subst}
use native.Mathlib.Omega.{arith}
use Rattle.laws.proofs.Exits.{handed-on}
use Rattle.treelines.specs.Elements.{no_inputs, got_inputs}
use Rattle.treelines.proofs.InputLaws.{Needed, needed-begins, needed-done, needed-missing, needed-more}
use Rattle.treelines.proofs.all_inputs.Goals as goal

pub loop-k-init : goal.loop-k-init
loop-k-init c = let a = c.args in
    subst (λ s. Needed a.text.now a.least a.more no_inputs a.c.at s a.c.at 0) (sym c.no_inputs-sum.ensures)
    (needed-begins _ _ _ no_inputs _ refl)

pub returns-in_err-next : goal.returns-in_err-next
returns-in_err-next c = ap (got_inputs c.args.text.now) (handed-on _ c.from_residual.ensures.1)
    ∙ needed-missing _ _ _ _ _ _ _ _ c.loop-k.invariant c.loop-k-test.true _ c.number_field.ensures _ c.in_err-next.was

pub loop-k-preserved : goal.loop-k-preserved
loop-k-preserved c = needed-more _ _ _ _ _ _ _ _ c.loop-k.invariant c.loop-k-test.true _ c.number_field.ensures _ _
    c.in_ok-next.was _ c.placed-sum.ensures

pub further_inputs-requires : goal.further_inputs-requires
further_inputs-requires c = let f = c.loop-k.invariant in
    let n = f.count in
    let l = f.turns in
    omega (arith, n, l)

pub returns : goal.returns
returns c = c.further_inputs.ensures ∙ needed-done _ _ _ _ _ _ _ _ c.loop-k.invariant c.loop-k-test.false
