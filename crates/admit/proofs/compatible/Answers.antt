-- `admit::compatible` meets its contract: 20, or what the check says of the table's model.
use Rattle.iosa.specs.Checks.{compatible_of}
use Rattle.admit.proofs.Recognised.{recognised-image, exit-20, goes-on}
use Rattle.admit.proofs.compatible.Goals as goal

pub returns-in_err-check_image : goal.returns-in_err-check_image
returns-in_err-check_image c = exit-20 _ compatible_of _ _ c.from_residual.ensures.1 c.in_err-check_image.ensures

pub check_compatible-requires : goal.check_compatible-requires
check_compatible-requires c = recognised-image _ c.in_ok-check_image.ensures

pub returns : goal.returns
returns c = goes-on _ compatible_of _ c.in_ok-check_image.ensures c.check_compatible.ensures
