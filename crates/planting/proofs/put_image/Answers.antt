-- `planting::put_image`: the actions are named, then both parts.
use mathlib.Core.Path.{◌≡◌, refl}
use native.Mathlib.Omega.{arith}
use lib.ListN.{length}
use Rattle.trees.proofs.Answers.{limits-exactly}
use Rattle.treenames.specs.Names.{tree_in}
use Rattle.planting.proofs.LineWalks.{image-written, plantable}
use Rattle.planting.proofs.put_image.Goals as goal

pub put_front-requires : goal.put_front-requires
put_front-requires c = let e = c.name_actions-named.ensures in
    (plantable c.args.text.now _ _ _ c.requires.0 c.requires.1 e refl, e.components, c.requires.2)

pub put_rows-requires : goal.put_rows-requires
put_rows-requires c = let e = c.name_actions-named.ensures in
    let k : length c.put_front.new.into ≡ length c.args.into.now = c.put_front.auto.into in
    let r = c.requires.2 in
    (plantable c.args.text.now _ _ _ c.requires.0 c.requires.1 e refl, omega (arith, k, r))

pub returns : goal.returns
returns c = let t = tree_in c.args.text.now in
    image-written t c.args.into.now _ _ ((limits-exactly t).0 c.requires.1).components c.put_front.ensures c.put_rows.ensures
