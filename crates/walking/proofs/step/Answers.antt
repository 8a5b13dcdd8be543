-- `walking::step` meets its contract: by the guard.
use Rattle.walking.proofs.Pacing.{step-urgent, step-calm, trod-as}
use Rattle.walking.proofs.step.Goals as goal

pub returns-then-g-eq0 : goal.returns-then-g-eq0
returns-then-g-eq0 c = trod-as _ _ (step-urgent _ _ _ _ c.if-g-eq0.true) _ _ c.urgently.ensures

pub returns-else-g-eq0 : goal.returns-else-g-eq0
returns-else-g-eq0 c = trod-as _ _ (step-calm _ _ _ _ c.if-g-eq0.false) _ _ c.calmly.ensures
