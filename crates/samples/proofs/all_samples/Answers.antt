-- `samples::all_samples` meets its contract. The loop's invariant: what the samples from here on come to is what all of them do.
use mathlib.Core.Path.{◌∙◌, ap}
use Rattle.laws.proofs.Exits.{handed-on}
use Rattle.fields.specs.Fields.{past}
use Rattle.samples.proofs.LineLaws.{turns-none, turns-end, turns-lf, turns-missing, turns-less, turns_more}
use Rattle.samples.proofs.all_samples.Goals as goal

pub loop-at-init : goal.loop-at-init
loop-at-init c = turns-none _ _

pub returns-then-text-at-eq-LF : goal.returns-then-text-at-eq-LF
returns-then-text-at-eq-LF c = turns-lf _ _ _ c.loop-at.invariant c.loop-at-test.true c.if-text-at-eq-LF.true

pub loop-at-smaller : goal.loop-at-smaller
loop-at-smaller c = turns-less _ _ _ c.loop-at.invariant c.loop-at-test.true
    c.if-text-at-eq-LF.false _ c.next.ensures _ _ c.in_ok-d.was

pub loop-at-preserved : goal.loop-at-preserved
loop-at-preserved c = turns_more _ _ _ c.loop-at.invariant c.loop-at-test.true
    c.if-text-at-eq-LF.false _ c.next.ensures _ _ c.in_ok-d.was

pub returns-in_err-d : goal.returns-in_err-d
returns-in_err-d c = ap (past c.args.text.now) (handed-on _ c.from_residual.ensures.1) ∙ turns-missing _ _ _ c.loop-at.invariant c.loop-at-test.true
    c.if-text-at-eq-LF.false _ c.next.ensures _ c.in_err-d.was

pub returns : goal.returns
returns c = turns-end _ _ _ c.loop-at.invariant c.loop-at-test.false
