-- `orderly::may_walk` meets its contract: what `accept` refuses, then what is asked of the accepted model.
use Rattle.admit.proofs.Exactly.{accept-fine}
use Rattle.triggering.specs.Test.{entry_of}
use Rattle.orderly.specs.Calls.{either_fault}
use Rattle.orderly.proofs.Checking.{either-behind, not-accepted, accepted-then}
use Rattle.orderly.proofs.may_walk.Goals as goal

pub returns-in_err-accept : goal.returns-in_err-accept
returns-in_err-accept c = not-accepted _ entry_of either_fault either-behind _ c.in_err-accept.ensures _ c.from_residual.ensures.1

pub check_walk-requires : goal.check_walk-requires
check_walk-requires c = let d = accept-fine _ c.in_ok-accept.ensures in (d.image, d.accepted)

pub returns : goal.returns
returns c = accepted-then _ entry_of either_fault either-behind c.in_ok-accept.ensures _ c.check_walk.ensures
