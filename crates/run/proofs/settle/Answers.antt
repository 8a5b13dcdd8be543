-- `run::settle` meets its contract: what the check refuses, or else 22, or else 24, or else settling by our rule.
use Rattle.laws.proofs.Exits.{handed-on}
use Rattle.entry.specs.Entry.{entry_fault}
use Rattle.run.proofs.Ready.{passed, ready-to-settle}
use Rattle.run.proofs.SettleCalls.{by-check, by-steps, settle-follows, settle-refuses, settle-is-short, settle-is-done}
use Rattle.run.proofs.settle.Goals as goal

pub returns-in_err-may_settle : goal.returns-in_err-may_settle
returns-in_err-may_settle c = let why = by-check _ _ _ _ (settle-follows _ _ _) _ c.may_settle.ensures _ c.in_err-may_settle.was in
    rw (handed-on _ c.from_residual.ensures.1) (settle-refuses _ _ _ _ _ why)

-- 22
pub returns-then-budget-gt-BUDGET : goal.returns-then-budget-gt-BUDGET
returns-then-budget-gt-BUDGET c = let why = by-steps _ _ _ _ (settle-follows _ _ _) _ c.may_settle.ensures c.in_ok-may_settle.was
    c.if-budget-gt-BUDGET.true _ c.refusal.ensures in
    settle-refuses _ _ _ _ _ why

-- 24
pub returns-then-trace-budget : goal.returns-then-trace-budget
returns-then-trace-budget c = let ok = passed _ (entry_fault c.args.state) _ c.may_settle.ensures c.in_ok-may_settle.was in
    settle-is-short _ _ _ _ ok c.if-budget-gt-BUDGET.false c.if-trace-budget.true _ c.short_trace.ensures

pub by_rule-requires : goal.by_rule-requires
by_rule-requires c = let ok = passed _ (entry_fault c.args.state) _ c.may_settle.ensures c.in_ok-may_settle.was in
    (ready-to-settle _ ok.image _ ok.none, c.if-trace-budget.false)

pub returns : goal.returns
returns c = let ok = passed _ (entry_fault c.args.state) _ c.may_settle.ensures c.in_ok-may_settle.was in
    settle-is-done _ _ _ _ ok c.if-budget-gt-BUDGET.false c.if-trace-budget.false _ _ c.by_rule.ensures.0 c.by_rule.ensures.1
