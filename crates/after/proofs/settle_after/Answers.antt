-- `after::settle_after` meets its contract: the checks in their order, then settling from where the path led.
use Rattle.laws.proofs.Exits.{handed-on}
use Rattle.after.proofs.Answers.{settle-nowhere, settle-refuses, settle-there, settle-room, settle-done}
use Rattle.after.proofs.settle_after.Goals as goal

-- what the first check that refuses tells
pub returns-in_err-state : goal.returns-in_err-state
returns-in_err-state c = rw (handed-on _ c.from_residual.ensures.1) (settle-nowhere _ _ _ _ _ c.lead.ensures _ c.in_err-state.was)

pub returns-in_err-settle_check : goal.returns-in_err-settle_check
returns-in_err-settle_check c = rw (handed-on _ c.from_residual-in_err-settle_check.ensures.1)
    (settle-refuses _ _ _ _ _ c.lead.ensures _ c.in_ok-state.was _ c.settle_check.ensures _ c.in_err-settle_check.was)

pub by_rule-requires : goal.by_rule-requires
by_rule-requires c = (
  (settle-there _ _ _ _ _ c.lead.ensures _ c.in_ok-state.was _ c.settle_check.ensures).ready,
  settle-room _ _ _ _ _ c.lead.ensures _ c.in_ok-state.was _ c.settle_check.ensures c.in_ok-settle_check.was,
)

pub returns : goal.returns
returns c = settle-done _ _ _ _ _ c.lead.ensures _ c.in_ok-state.was _ c.settle_check.ensures c.in_ok-settle_check.was _ _
    c.by_rule.ensures.0 c.by_rule.ensures.1
