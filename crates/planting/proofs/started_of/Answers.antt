-- `planting::started_of` meets its contract.
use Rattle.planting.proofs.started_of.Goals as goal

pub returns-in-Be : goal.returns-in-Be
returns-in-Be c = rw c.in-Be.is c.single-fc.ensures
