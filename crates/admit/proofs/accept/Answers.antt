-- `admit::accept` meets its contract: 20, or what the check says of the table's model.
use Rattle.iosa.specs.Checks.{accept_of}
use Rattle.admit.proofs.Recognised.{recognised-image, exit-20, goes-on}
use Rattle.admit.proofs.accept.Goals as goal

pub returns-in_err-check_image : goal.returns-in_err-check_image
returns-in_err-check_image c = exit-20 _ accept_of _ _ c.from_residual.ensures.1 c.in_err-check_image.ensures

pub check_model-requires : goal.check_model-requires
check_model-requires c = recognised-image _ c.in_ok-check_image.ensures

pub returns : goal.returns
returns c = goes-on _ accept_of _ c.in_ok-check_image.ensures c.check_model.ensures
