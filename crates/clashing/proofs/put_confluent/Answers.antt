-- `clashing::put_confluent` meets its contract.
use mathlib.Core.Path.{ap}
use native.Mathlib.Omega.{arith}
use lib.ListN.{length}
use Rattle.print.proofs.LaidLaws.{left-last, last-room}
use Rattle.tell.proofs.TellLaws.{left-parts, part_room, part-put}
use Rattle.whys.specs.Explanation.{confluent_word}
use Rattle.clashing.proofs.Meeting.{confluent-parts}
use Rattle.clashing.proofs.put_confluent.Goals as goal

pub put_word-end-requires : goal.put_word-end-requires
put_word-end-requires c =
    let l0 = left-parts c.args.out.now 0 _ confluent-parts (omega (arith, c.requires, ap length confluent-parts)) in
    part_room confluent_word _ l0

pub put_byte-requires : goal.put_byte-requires
put_byte-requires c =
    let l0 = left-parts c.args.out.now 0 _ confluent-parts (omega (arith, c.requires, ap length confluent-parts)) in
    let l1 = part-put confluent_word _ l0 c.put_word-end.ensures in
    omega (arith, last-room l1)

pub returns : goal.returns
returns c =
    let l0 = left-parts c.args.out.now 0 _ confluent-parts (omega (arith, c.requires, ap length confluent-parts)) in
    let l1 = part-put confluent_word _ l0 c.put_word-end.ensures in
    left-last l1 c.put_byte.ensures
