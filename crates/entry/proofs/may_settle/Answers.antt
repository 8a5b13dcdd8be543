-- `entry::may_settle` meets its contract: 20, or what the checks say of the table's model and the state.
use Rattle.admit.proofs.Recognised.{recognised-image, exit-20, goes-on}
use Rattle.entry.specs.Entry.{entry_fault}
use Rattle.entry.proofs.may_settle.Goals as goal

pub returns-in_err-check_image : goal.returns-in_err-check_image
returns-in_err-check_image c = exit-20 _ (entry_fault c.args.x) _ _ c.from_residual.ensures.1 c.in_err-check_image.ensures

pub check_entry-requires : goal.check_entry-requires
check_entry-requires c = recognised-image _ c.in_ok-check_image.ensures

pub returns : goal.returns
returns c = goes-on _ (entry_fault c.args.x) _ c.in_ok-check_image.ensures c.check_entry.ensures
