-- `run::settle_list` meets its contract: what the check refuses, or else 22, or else settling by the list.
use Rattle.laws.proofs.Exits.{handed-on}
use Rattle.entry.specs.Entry.{entry_fault}
use Rattle.run.proofs.Ready.{passed, ready-to-settle}
use Rattle.run.proofs.SettleCalls.{by-check, by-steps, list-follows, list-refuses, list-is-played}
use Rattle.run.proofs.settle_list.Goals as goal

pub returns-in_err-may_settle : goal.returns-in_err-may_settle
returns-in_err-may_settle c = let why = by-check _ _ _ _ (list-follows _ _) _ c.may_settle.ensures _ c.in_err-may_settle.was in
    rw (handed-on _ c.from_residual.ensures.1) (list-refuses _ _ _ _ why)

-- 22
pub returns-then-list-gt-BUDGET : goal.returns-then-list-gt-BUDGET
returns-then-list-gt-BUDGET c = let why = by-steps _ _ _ _ (list-follows _ _) _ c.may_settle.ensures c.in_ok-may_settle.was
    c.if-list-gt-BUDGET.true _ c.refusal.ensures in
    list-refuses _ _ _ _ why

pub by_list-requires : goal.by_list-requires
by_list-requires c = let ok = passed _ (entry_fault c.args.state) _ c.may_settle.ensures c.in_ok-may_settle.was in
    ready-to-settle _ ok.image _ ok.none

pub returns : goal.returns
returns c = let ok = passed _ (entry_fault c.args.state) _ c.may_settle.ensures c.in_ok-may_settle.was in
    list-is-played _ _ _ ok _ c.if-list-gt-BUDGET.false c.by_list.ensures
