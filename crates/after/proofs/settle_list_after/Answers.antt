-- `after::settle_list_after` meets its contract: the checks in their order, then settling by the list from where the path led.
use Rattle.laws.proofs.Exits.{handed-on}
use Rattle.after.proofs.Answers.{list-nowhere, list-refuses, list-there, list_done}
use Rattle.after.proofs.settle_list_after.Goals as goal

-- what the first check that refuses tells
pub returns-in_err-from : goal.returns-in_err-from
returns-in_err-from c = rw (handed-on _ c.from_residual.ensures.1) (list-nowhere _ _ _ _ c.lead.ensures _ c.in_err-from.was)

pub returns-in_err-steps_check : goal.returns-in_err-steps_check
returns-in_err-steps_check c = rw (handed-on _ c.from_residual-in_err-steps_check.ensures.1)
    (list-refuses _ _ _ _ c.lead.ensures _ c.in_ok-from.was _ c.steps_check.ensures _ c.in_err-steps_check.was)

pub by_list-requires : goal.by_list-requires
by_list-requires c = (list-there _ _ _ _ c.lead.ensures _ c.in_ok-from.was _ c.steps_check.ensures).ready

pub returns : goal.returns
returns c = list_done _ _ _ _ c.lead.ensures _ c.in_ok-from.was _ c.steps_check.ensures c.in_ok-steps_check.was _ c.by_list.ensures
