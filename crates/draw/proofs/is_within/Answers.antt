-- `draw::is_within` meets its contract.
use lib.Ieee.{of_bits}
use Rattle.draw.specs.Draw.{within}
use Rattle.draw.proofs.is_within.Goals as goal

pub returns-then-x : goal.returns-then-x
unfolding within of_bits
returns-then-x c = rw c.if-x.true

pub returns-else-x : goal.returns-else-x
unfolding within of_bits
returns-else-x c = rw c.if-x.false
