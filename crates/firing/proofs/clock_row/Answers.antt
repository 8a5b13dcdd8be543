-- `firing::clock_row` meets its contract.
use mathlib.Core.Path.{ap, ◌∙◌}
use native.Mathlib.Omega.{arith}
use Rattle.layout.proofs.ImageIsSane.{image-long, count-below, comp-ranges}
use Rattle.rows.specs.Ranges.{found_of}
use Rattle.firing.proofs.GuardRow.{range-is}
use Rattle.firing.proofs.clock_row.Goals as goal

pub first_of-lo-requires : goal.first_of-lo-requires
first_of-lo-requires c = (image-long _ c.requires.0, omega (arith, count-below _ c.requires.0), omega (arith, (comp-ranges _ c.requires.0 _ c.requires.1).states))

pub first_of-hi-requires : goal.first_of-hi-requires
first_of-hi-requires c = (image-long _ c.requires.0, omega (arith, count-below _ c.requires.0), omega (arith, (comp-ranges _ c.requires.0 _ c.requires.1).states))

pub find_guard-requires : goal.find_guard-requires
find_guard-requires c = (image-long _ c.requires.0, rw c.first_of-hi.ensures ((comp-ranges _ c.requires.0 _ c.requires.1).rows _ (omega arith)))

pub returns : goal.returns
returns c = c.find_guard.ensures ∙ ap found_of (range-is _ _ _ _ _ _ c.first_of-lo.ensures c.first_of-hi.ensures)
