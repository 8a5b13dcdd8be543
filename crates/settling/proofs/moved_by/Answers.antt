-- `settling::moved_by` meets its contract.
use mathlib.Core.Path.{ap}
use Rattle.answer.specs.Told.{moved}
use Rattle.settling.proofs.moved_by.Goals as goal

pub returns : goal.returns
returns c = let m = c.move_all-m in
    record { outcome = ap (moved c.args.a) m.ensures.0; state = m.ensures.1 }
