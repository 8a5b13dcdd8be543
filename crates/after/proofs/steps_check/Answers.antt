-- `after::steps_check` meets its contract.
use Rattle.after.proofs.Order.{steps-over, steps-fit}
use Rattle.after.proofs.steps_check.Goals as goal

pub returns-then-steps-gt-BUDGET : goal.returns-then-steps-gt-BUDGET
returns-then-steps-gt-BUDGET c = steps-over _ c.if-steps-gt-BUDGET.true _ c.refusal.ensures

pub returns : goal.returns
returns c = steps-fit _ c.if-steps-gt-BUDGET.false
