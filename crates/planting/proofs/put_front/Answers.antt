-- `planting::put_front`: the number of components, the blocks, the zeros.
use mathlib.Core.Path.{◌≡◌}
use native.Mathlib.Omega.{arith}
use lib.ListN.{length, set, length-set}
use Rattle.treenames.specs.Names.{tree_in}
use Rattle.planting.proofs.LineWalks.{front-written}
use Rattle.planting.proofs.put_front.Goals as goal

pub bounds-into-0 : goal.bounds-into-0
bounds-into-0 c = let p = c.requires in omega (arith, p.2)

pub put_blocks-requires : goal.put_blocks-requires
put_blocks-requires c = let p = c.requires in (p.0, simp length-set p.2)

pub overflow_mul-components : goal.overflow_mul-components
overflow_mul-components c = let p = c.requires in
    omega (arith, p.1, p.0.components)

pub overflow_add-components : goal.overflow_add-components
overflow_add-components c = let p = c.requires in
    omega (arith, p.1, p.0.components)

pub overflow_sub-components : goal.overflow_sub-components
overflow_sub-components c = let p = c.requires in
    omega (arith, p.1, p.0.components)

pub overflow_mul-components-2 : goal.overflow_mul-components-2
overflow_mul-components-2 c = omega arith

pub zero_words-requires : goal.zero_words-requires
zero_words-requires c = let p = c.requires in
    let k : length c.put_blocks.new.into ≡ length (set c.args.into.now 0 c.args.components) = c.put_blocks.auto.into in
    let m = length-set c.args.into.now 0 c.args.components in
    let n = p.0.components in
    let e = p.1 in
    let r = p.2 in
    (omega (arith, k, m, n, e, r), omega (arith, n, e))

pub returns : goal.returns
returns c = front-written (tree_in c.args.text.now) c.args.into.now _ _ c.args.components c.requires.1 c.put_blocks.ensures c.zero_words.ensures
