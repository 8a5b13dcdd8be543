-- `explain::explain_table` meets its contract: as `accept`, then on an accepted table.
use Rattle.laws.proofs.Exits.{handed-on}
use Rattle.admit.proofs.Exactly.{accept-fine}
use Rattle.explain.proofs.Called.{refused-before, of-table}
use Rattle.explain.proofs.explain_table.Goals as goal

pub returns-in_err-accept : goal.returns-in_err-accept
returns-in_err-accept c = rw (handed-on _ c.from_residual.ensures.1) (refused-before c.args.table.now c.args.out.now _ c.in_err-accept.ensures)

pub explained-requires : goal.explained-requires
explained-requires c = let a = accept-fine _ c.in_ok-accept.ensures in (a.image, a.accepted)

pub returns : goal.returns
returns c = let a = accept-fine _ c.in_ok-accept.ensures in
    of-table c.args.table.now c.args.out.now _ _ a.image a.accepted c.explained.ensures
