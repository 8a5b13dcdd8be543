-- `roundlines::put_round` meets its contract: the first fields and the last.
use mathlib.Core.List.{◌++◌}
use Rattle.answer.specs.State.{parts_of}
use Rattle.roundlines.specs.Lines.{fired_of, stood_of}
use Rattle.roundlines.proofs.RoundLaws.{round-parts}
use Rattle.print.proofs.LaidLaws.{left-last, last-room}
use Rattle.tell.proofs.TellLaws.{left-parts, part_room, part-put}
use Rattle.roundlines.proofs.put_round.Goals as goal

pub put_fired-next-requires : goal.put_fired-next-requires
put_fired-next-requires c = let a = c.args in
    let l0 = left-parts a.out.now 0 ((fired_of a.k a.ticks a.g) ++ (stood_of (parts_of a.x) a.resets)) (round-parts a.k a.ticks a.g (parts_of a.x) a.resets) c.requires.1 in
    part_room (fired_of a.k a.ticks a.g) (stood_of (parts_of a.x) a.resets) l0

pub put_stood-requires : goal.put_stood-requires
put_stood-requires c = let a = c.args in
    let l0 = left-parts a.out.now 0 ((fired_of a.k a.ticks a.g) ++ (stood_of (parts_of a.x) a.resets)) (round-parts a.k a.ticks a.g (parts_of a.x) a.resets) c.requires.1 in
    let l1 = part-put (fired_of a.k a.ticks a.g) (stood_of (parts_of a.x) a.resets) l0 c.put_fired-next.ensures in
    (c.requires.0, last-room l1)

pub returns : goal.returns
returns c = let a = c.args in
    let l0 = left-parts a.out.now 0 ((fired_of a.k a.ticks a.g) ++ (stood_of (parts_of a.x) a.resets)) (round-parts a.k a.ticks a.g (parts_of a.x) a.resets) c.requires.1 in
    let l1 = part-put (fired_of a.k a.ticks a.g) (stood_of (parts_of a.x) a.resets) l0 c.put_fired-next.ensures in
    left-last l1 c.put_stood.ensures
