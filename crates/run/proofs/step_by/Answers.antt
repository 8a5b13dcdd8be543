-- `run::step_by` meets its contract: what the check refuses, or else 21, or else the step by the named action.
use mathlib.Core.Path.{sym, ◌∙◌}
use Rattle.laws.proofs.Exits.{handed-on}
use Rattle.iosa.specs.Checks.{accept_of}
use Rattle.run.proofs.Ready.{passed, image-of, ready}
use Rattle.run.proofs.StepCalls.{named-is-refused, named-is-wrong, named-is-taken}
use Rattle.run.proofs.step_by.Goals as goal

pub returns-in_err-accept : goal.returns-in_err-accept
returns-in_err-accept c = rw (handed-on _ c.from_residual.ensures.1) (named-is-refused _ _ _ c.accept.ensures _ c.in_err-accept.was c.args.action)

pub in_range-requires : goal.in_range-requires
in_range-requires c = image-of _ (passed _ accept_of _ c.accept.ensures c.in_ok-accept.was).image

pub returns-then-not-in_range : goal.returns-then-not-in_range
returns-then-not-in_range c = named-is-wrong _ _ (passed _ accept_of _ c.accept.ensures c.in_ok-accept.was) _
    (sym c.in_range.ensures ∙ c.if-not-in_range.true) _ c.refusal.ensures

pub named_step-requires : goal.named_step-requires
named_step-requires c = let ok = passed _ accept_of _ c.accept.ensures c.in_ok-accept.was in
    ready _ ok.image ok.none _ (sym c.in_range.ensures ∙ c.if-not-in_range.false)

pub returns : goal.returns
returns c = named-is-taken _ _ (passed _ accept_of _ c.accept.ensures c.in_ok-accept.was) _
    (sym c.in_range.ensures ∙ c.if-not-in_range.false) _ c.named_step.ensures
