-- `roundlines::put_value` meets its contract.
use mathlib.Core.Path.{sym}
use mathlib.Core.List.{[], ◌∷◌, ◌++◌}
use native.Mathlib.Omega.{arith}
use Rattle.model.specs.Text.{dash}
use Rattle.print.proofs.LaidLaws.{left-last, last-room}
use Rattle.tell.proofs.TellLaws.{left-parts, part_room, part-put, room_as, put_as}
use Rattle.roundlines.specs.Lines.{long}
use Rattle.roundlines.proofs.RoundLaws.{below_parts, own-parts}
use Rattle.roundlines.proofs.put_value.Goals as goal

pub put_byte-next-requires : goal.put_byte-next-requires
put_byte-next-requires c = let a = c.args in
    let l0 = left-parts a.out.now a.at ((dash ∷ []) ++ long a.n) (below_parts a.below a.n c.if-below.true) c.requires in
    omega (arith, part_room (dash ∷ []) (long a.n) l0)

pub put_long-requires : goal.put_long-requires
put_long-requires c = let a = c.args in
    let l0 = left-parts a.out.now a.at ((dash ∷ []) ++ long a.n) (below_parts a.below a.n c.if-below.true) c.requires in
    last-room (part-put (dash ∷ []) (long a.n) l0 c.put_byte-next.ensures)

pub returns-then-below : goal.returns-then-below
returns-then-below c = let a = c.args in
    let l0 = left-parts a.out.now a.at ((dash ∷ []) ++ long a.n) (below_parts a.below a.n c.if-below.true) c.requires in
    left-last (part-put (dash ∷ []) (long a.n) l0 c.put_byte-next.ensures) c.put_long.ensures

pub put_long-requires-2 : goal.put_long-requires-2
put_long-requires-2 c = let a = c.args in
    room_as a.out.now a.at (own-parts a.below a.n c.if-below.false) c.requires

pub returns : goal.returns
returns c = put_as (sym (own-parts c.args.below c.args.n c.if-below.false)) c.put_long-2.ensures
