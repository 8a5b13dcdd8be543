-- `planting::put_head`: eight words.
use native.Mathlib.Omega.{arith}
use lib.ListN.{length-set}
use Rattle.merging.proofs.MovedBlocks.{head-written}
use Rattle.planting.proofs.put_head.Goals as goal

pub bounds-into-at-2 : goal.bounds-into-at-2
bounds-into-at-2 c = simp length-set (omega (arith, c.requires.4, c.requires.5))

pub bounds-into-at-3 : goal.bounds-into-at-3
bounds-into-at-3 c = simp length-set (omega (arith, c.requires.4, c.requires.5))

pub bounds-into-at-4 : goal.bounds-into-at-4
bounds-into-at-4 c = simp length-set (omega (arith, c.requires.4, c.requires.5))

pub bounds-into-at-5 : goal.bounds-into-at-5
bounds-into-at-5 c = simp length-set (omega (arith, c.requires.4, c.requires.5))

pub bounds-into-at-6 : goal.bounds-into-at-6
bounds-into-at-6 c = simp length-set (omega (arith, c.requires.4, c.requires.5))

pub bounds-into-at-7 : goal.bounds-into-at-7
bounds-into-at-7 c = simp length-set (omega (arith, c.requires.4, c.requires.5))

pub bounds-into-at-8 : goal.bounds-into-at-8
bounds-into-at-8 c = simp length-set (omega (arith, c.requires.4, c.requires.5))

pub returns : goal.returns
returns c = head-written c.args.into.now c.args.at c.head_of-h.result _ c.head_of-h.ensures
