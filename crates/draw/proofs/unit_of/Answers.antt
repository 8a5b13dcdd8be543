-- `draw::unit_of` meets its contract: the top bits are a whole number that the format holds, and so is their part of 2^53.
use lib.Ieee.{of_bits}
use Rattle.draw.proofs.Unit.{unit-by-division}
use Rattle.draw.proofs.unit_of.Goals as goal

pub returns : goal.returns
unfolding of_bits
returns c = unit-by-division c.args.n c.ranges.n.fits
