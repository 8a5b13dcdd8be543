-- `after::path_check` meets its contract.
use Rattle.after.proofs.Order.{path-over, path-fits}
use Rattle.after.proofs.path_check.Goals as goal

pub returns-then-path : goal.returns-then-path
returns-then-path c = path-over _ c.if-path.true _ c.refusal.ensures

pub returns : goal.returns
returns c = path-fits _ c.if-path.false
