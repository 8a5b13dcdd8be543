-- `merge::merge` meets its contract.
use Rattle.laws.proofs.Exits.{handed-on}
use Rattle.merge.proofs.Called.{refused-before, fine_before}
use Rattle.merge.proofs.merge.Goals as goal

pub joined-requires : goal.joined-requires
joined-requires c = fine_before c.args.table.now c.args.i c.args.into.now c.in_ok-accept.ensures

pub returns-in_err-accept : goal.returns-in_err-accept
returns-in_err-accept c =
    rw (handed-on _ c.from_residual.ensures.1) (refused-before c.args.table.now c.args.i c.args.into.now _ c.in_err-accept.ensures)
