-- `repair::row_count`: read off the last component.
use native.Mathlib.Omega.{arith}
use Rattle.layout.proofs.ImageIsSane.{image-long, comp-ranges}
use Rattle.mending.proofs.Whole.{total-rows, last-inside}
use Rattle.repair.proofs.row_count.Goals as goal

pub count_of-requires : goal.count_of-requires
count_of-requires c = image-long _ c.requires

pub overflow_sub-last : goal.overflow_sub-last
overflow_sub-last c = (last-inside _ c.requires _ c.count_of.ensures).0

pub block_word-states-requires : goal.block_word-states-requires
block_word-states-requires c = let p = c.requires in (image-long _ p, (last-inside _ p _ c.count_of.ensures).2, omega arith)

pub first_of-requires : goal.first_of-requires
first_of-requires c = let p = c.requires in
    let i = last-inside _ p _ c.count_of.ensures in
    (image-long _ p, i.2, omega (arith, c.block_word-states.ensures, (comp-ranges _ p _ i.1).states))

pub returns : goal.returns
returns c = total-rows _ c.requires _ _ _ c.count_of.ensures c.block_word-states.ensures
    c.first_of.ensures
