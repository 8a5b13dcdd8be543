-- `roundlines::put_ended` meets its contract: the line of the rounds and those of the clocks.
use mathlib.Core.List.{◌++◌}
use Rattle.answer.specs.State.{parts_of}
use Rattle.roundlines.specs.Lines.{done_line, clock_lines}
use Rattle.roundlines.proofs.RoundLaws.{ended-parts}
use Rattle.print.proofs.LaidLaws.{left-last, last-room}
use Rattle.tell.proofs.TellLaws.{left-parts, part_room, part-put}
use Rattle.roundlines.proofs.put_ended.Goals as goal

pub put_done-next-requires : goal.put_done-next-requires
put_done-next-requires c = let a = c.args in
    let l0 = left-parts a.out.now 0 ((done_line a.k (parts_of a.x)) ++ (clock_lines a.d a.values.now)) (ended-parts a.k (parts_of a.x) a.d a.values.now) c.requires.2 in
    (c.requires.0, part_room (done_line a.k (parts_of a.x)) (clock_lines a.d a.values.now) l0)

pub put_clocks-requires : goal.put_clocks-requires
put_clocks-requires c = let a = c.args in
    let l0 = left-parts a.out.now 0 ((done_line a.k (parts_of a.x)) ++ (clock_lines a.d a.values.now)) (ended-parts a.k (parts_of a.x) a.d a.values.now) c.requires.2 in
    let l1 = part-put (done_line a.k (parts_of a.x)) (clock_lines a.d a.values.now) l0 c.put_done-next.ensures in
    (c.requires.1, last-room l1)

pub returns : goal.returns
returns c = let a = c.args in
    let l0 = left-parts a.out.now 0 ((done_line a.k (parts_of a.x)) ++ (clock_lines a.d a.values.now)) (ended-parts a.k (parts_of a.x) a.d a.values.now) c.requires.2 in
    let l1 = part-put (done_line a.k (parts_of a.x)) (clock_lines a.d a.values.now) l0 c.put_done-next.ensures in
    left-last l1 c.put_clocks.ensures
