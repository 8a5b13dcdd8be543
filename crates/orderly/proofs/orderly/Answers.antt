-- `orderly::orderly` meets its contract: what `accept` refuses, then what is asked of the accepted model.
use Rattle.admit.proofs.Exactly.{accept-fine}
use Rattle.triggering.specs.Test.{orderly_of}
use Rattle.orderly.specs.Calls.{called_fault}
use Rattle.orderly.proofs.Checking.{orderly-behind, not-accepted, accepted-then}
use Rattle.orderly.proofs.orderly.Goals as goal

pub returns-in_err-accept : goal.returns-in_err-accept
returns-in_err-accept c = not-accepted _ orderly_of called_fault orderly-behind _ c.in_err-accept.ensures _ c.from_residual.ensures.1

pub check_orderly-requires : goal.check_orderly-requires
check_orderly-requires c = let d = accept-fine _ c.in_ok-accept.ensures in (d.image, d.accepted)

pub returns : goal.returns
returns c = accepted-then _ orderly_of called_fault orderly-behind c.in_ok-accept.ensures _ c.check_orderly.ensures
