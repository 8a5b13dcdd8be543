-- `feed::drawn` meets its contract.
use mathlib.Core.Path.{refl}
use Rattle.feed.proofs.drawn.Goals as goal

pub returns : goal.returns
returns c = (refl, c.in_ok-ticks.ensures)

pub returns-in_err-ticks : goal.returns-in_err-ticks
returns-in_err-ticks c = rw c.from_residual.ensures c.in_err-ticks.ensures
