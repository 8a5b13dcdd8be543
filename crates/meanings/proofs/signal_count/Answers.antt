-- `meanings::signal_count` meets its contract.
use Rattle.meanings.proofs.signal_count.Goals as goal

pub returns-in-Be : goal.returns-in-Be
returns-in-Be c = rw c.in-Be.is c.be_signals-all.ensures
