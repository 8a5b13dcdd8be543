-- `after::lead` meets its contract: the checks in their order, then the walk.
use Rattle.laws.proofs.Exits.{handed-on}
use Rattle.after.proofs.Leading.{lead-unfit, lead-long, lead-begins, lead-goes}
use Rattle.after.proofs.lead.Goals as goal

pub returns-in_err-may_walk : goal.returns-in_err-may_walk
returns-in_err-may_walk c = rw (handed-on _ c.from_residual.ensures.1) (lead-unfit _ _ _ c.may_walk.ensures _ c.in_err-may_walk.was)

pub returns-in_err-path_check : goal.returns-in_err-path_check
returns-in_err-path_check c = rw (handed-on _ c.from_residual-in_err-path_check.ensures.1)
    (lead-long _ _ _ c.may_walk.ensures c.in_ok-may_walk.was _ c.path_check.ensures _ c.in_err-path_check.was)

pub walk-requires : goal.walk-requires
walk-requires c = lead-begins _ c.args.path.now _ c.may_walk.ensures c.in_ok-may_walk.was

pub returns : goal.returns
returns c = lead-goes _ _ _ c.may_walk.ensures c.in_ok-may_walk.was _ c.path_check.ensures c.in_ok-path_check.was _ c.walk.ensures
