-- `admit::confluent` meets its contract: 20, or what the check says of the table's model.
use Rattle.iosa.specs.Checks.{confluent_of}
use Rattle.admit.proofs.Recognised.{recognised-image, exit-20, goes-on}
use Rattle.admit.proofs.confluent.Goals as goal

pub returns-in_err-check_image : goal.returns-in_err-check_image
returns-in_err-check_image c = exit-20 _ confluent_of _ _ c.from_residual.ensures.1 c.in_err-check_image.ensures

pub check_confluent-requires : goal.check_confluent-requires
check_confluent-requires c = recognised-image _ c.in_ok-check_image.ensures

pub returns : goal.returns
returns c = goes-on _ confluent_of _ c.in_ok-check_image.ensures c.check_confluent.ensures
