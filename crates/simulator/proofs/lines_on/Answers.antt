-- What `may_walk` passes can be simulated.
use Rattle.simulate.proofs.Called.{runnable}
use Rattle.simulator.proofs.lines_on.Goals as goal

pub lines_of-requires : goal.lines_of-requires
lines_of-requires c = (runnable _ _ c.may_walk.ensures c.in-Ok.is).0
