-- `run::step` meets its contract: what the check refuses, or else 21, or else the step.
use mathlib.Core.Path.{sym, ◌∙◌}
use Rattle.laws.proofs.Exits.{handed-on}
use Rattle.iosa.specs.Checks.{accept_of}
use Rattle.run.proofs.Ready.{passed, image-of, ready}
use Rattle.run.proofs.StepCalls.{step-is-refused, step-is-wrong, step-is-taken}
use Rattle.run.proofs.step.Goals as goal

pub returns-in_err-accept : goal.returns-in_err-accept
returns-in_err-accept c = rw (handed-on _ c.from_residual.ensures.1) (step-is-refused _ _ _ c.accept.ensures _ c.in_err-accept.was)

pub in_range-requires : goal.in_range-requires
in_range-requires c = image-of _ (passed _ accept_of _ c.accept.ensures c.in_ok-accept.was).image

pub returns-then-not-in_range : goal.returns-then-not-in_range
returns-then-not-in_range c = step-is-wrong _ _ (passed _ accept_of _ c.accept.ensures c.in_ok-accept.was)
    (sym c.in_range.ensures ∙ c.if-not-in_range.true) _ c.refusal.ensures

pub rule_step-requires : goal.rule_step-requires
rule_step-requires c = let ok = passed _ accept_of _ c.accept.ensures c.in_ok-accept.was in
    ready _ ok.image ok.none _ (sym c.in_range.ensures ∙ c.if-not-in_range.false)

pub returns : goal.returns
returns c = step-is-taken _ _ (passed _ accept_of _ c.accept.ensures c.in_ok-accept.was)
    (sym c.in_range.ensures ∙ c.if-not-in_range.false) _ c.rule_step.ensures
