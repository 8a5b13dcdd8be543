-- `after::settle_check` meets its contract: 22, or else 24.
use Rattle.iosa.specs.Settle.{budget_fault, trace_fault}
use Rattle.parts.proofs.Saying.{exit-first, fine-next}
use Rattle.after.proofs.settle_check.Goals as goal

pub returns-in_err-steps_check : goal.returns-in_err-steps_check
returns-in_err-steps_check c = let a = c.args in
    exit-first _ _ c.from_residual.ensures.1 (budget_fault a.budget) (trace_fault a.budget a.room) c.in_err-steps_check.ensures

pub returns : goal.returns
returns c = let a = c.args in
    fine-next _ _ (budget_fault a.budget) (trace_fault a.budget a.room) c.steps_check.ensures c.in_ok-steps_check.was c.room_check.ensures
