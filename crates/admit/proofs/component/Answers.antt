-- `admit::component` meets its contract: 20, or what the check says of the table's model.
use Rattle.iosa.specs.Checks.{component_of}
use Rattle.admit.proofs.Recognised.{recognised-image, exit-20, goes-on}
use Rattle.admit.proofs.component.Goals as goal

pub returns-in_err-check_image : goal.returns-in_err-check_image
returns-in_err-check_image c = exit-20 _ (λ m. component_of m c.args.i) _ _ c.from_residual.ensures.1 c.in_err-check_image.ensures

pub check_own-requires : goal.check_own-requires
check_own-requires c = recognised-image _ c.in_ok-check_image.ensures

pub returns : goal.returns
returns c = goes-on _ (λ m. component_of m c.args.i) _ c.in_ok-check_image.ensures c.check_own.ensures
