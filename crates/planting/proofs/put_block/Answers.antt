-- `planting::put_block`: the head, then the first words.
use mathlib.Core.Path.{◌≡◌}
use native.Mathlib.Omega.{arith}
use lib.ListN.{length}
use Rattle.planting.proofs.LineWalks.{block_written}
use Rattle.planting.proofs.put_block.Goals as goal

pub put_head-requires : goal.put_head-requires
put_head-requires c = let p = c.requires in (p.0, p.1, p.2, p.3, p.4, omega (arith, p.5))

pub overflow_add-at : goal.overflow_add-at
overflow_add-at c = let p = c.requires in omega (arith, p.5)

pub put_firsts-requires : goal.put_firsts-requires
put_firsts-requires c = let p = c.requires in
    let k : length c.put_head.new.into ≡ length c.args.into.now = c.put_head.auto.into in
    (p.0, p.1, p.2, p.3, omega (arith, k, p.4), omega (arith, p.5), p.6)

pub returns : goal.returns
returns c = let a = c.args in
    (block_written a.into.now _ _ a.at a.base _ c.put_head.ensures c.put_firsts.ensures.0, c.put_firsts.ensures.1)
