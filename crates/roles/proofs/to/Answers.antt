-- `roles::to` meets its contract.
use Rattle.roles.proofs.MoveLaws.{move-when}
use Rattle.roles.proofs.to.Goals as goal

pub returns : goal.returns
returns c = move-when _ _ _ c.then_some.ensures
