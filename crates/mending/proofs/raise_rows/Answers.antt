-- `mending::raise_rows`: as many rows as the last component ends at.
use native.Mathlib.Omega.{arith}
use Rattle.layout.proofs.ImageIsSane.{image-long, comp-ranges}
use Rattle.mending.proofs.Whole.{total-rows, last-inside}
use Rattle.mending.proofs.raise_rows.Goals as goal

pub count_of-requires : goal.count_of-requires
count_of-requires c = image-long _ c.requires.0

pub overflow_sub-last : goal.overflow_sub-last
overflow_sub-last c = (last-inside _ c.requires.0 _ c.count_of.ensures).0

pub block_word-states-requires : goal.block_word-states-requires
block_word-states-requires c = (image-long _ c.requires.0, (last-inside _ c.requires.0 _ c.count_of.ensures).2, omega arith)

pub first_of-rows-requires : goal.first_of-rows-requires
first_of-rows-requires c = let i = last-inside _ c.requires.0 _ c.count_of.ensures in
    (image-long _ c.requires.0, i.2, omega (arith, c.block_word-states.ensures, (comp-ranges _ c.requires.0 _ i.1).states))

pub overflow_mul-rows : goal.overflow_mul-rows
overflow_mul-rows c = let e = total-rows _ c.requires.0 _ _ _ c.count_of.ensures c.block_word-states.ensures
    c.first_of-rows.ensures in
    omega (arith, e, c.requires.1)

pub raise-requires : goal.raise-requires
raise-requires c = let e = total-rows _ c.requires.0 _ _ _ c.count_of.ensures c.block_word-states.ensures
    c.first_of-rows.ensures in
    (omega (arith, e, c.requires.1, image-long _ c.requires.0), omega (arith, e, c.requires.1))

pub returns : goal.returns
returns c = let e = total-rows _ c.requires.0 _ _ _ c.count_of.ensures c.block_word-states.ensures
    c.first_of-rows.ensures in
    rw (← e) c.raise.ensures
