-- `tell::put_refused` meets its contract: what is left of the line is known after each call.
use mathlib.Core.List.{[], ◌∷◌}
use native.Mathlib.Omega.{arith}
use Rattle.answer.specs.Told.{values_at}
use Rattle.model.specs.Text.{tab, decimal, joined}
use Rattle.answering.specs.Report.{refused_word}
use Rattle.print.proofs.LaidLaws.{left-parts, part_room, part-put, left-last, last-room}
use Rattle.tell.proofs.TellLaws.{refused-parts}
use Rattle.tell.proofs.put_refused.Goals as goal

pub put_word-number-requires : goal.put_word-number-requires
put_word-number-requires c =
    let l0 = left-parts c.args.out.now c.args.at _ (refused-parts c.args.r) c.requires in
    part_room refused_word _ l0

pub put_behind-gap-requires : goal.put_behind-gap-requires
put_behind-gap-requires c =
    let l0 = left-parts c.args.out.now c.args.at _ (refused-parts c.args.r) c.requires in
    let l1 = part-put refused_word _ l0 c.put_word-number.ensures in
    part_room (tab ∷ decimal c.args.r.number) _ l1

pub put_byte-place-requires : goal.put_byte-place-requires
put_byte-place-requires c =
    let l0 = left-parts c.args.out.now c.args.at _ (refused-parts c.args.r) c.requires in
    let l1 = part-put refused_word _ l0 c.put_word-number.ensures in
    let l2 = part-put (tab ∷ decimal c.args.r.number) _ l1 c.put_behind-gap.ensures in
    omega (arith, part_room (tab ∷ []) _ l2)

pub put_place-end-requires : goal.put_place-end-requires
put_place-end-requires c =
    let l0 = left-parts c.args.out.now c.args.at _ (refused-parts c.args.r) c.requires in
    let l1 = part-put refused_word _ l0 c.put_word-number.ensures in
    let l2 = part-put (tab ∷ decimal c.args.r.number) _ l1 c.put_behind-gap.ensures in
    let l3 = part-put (tab ∷ []) _ l2 c.put_byte-place.ensures in
    part_room (joined (values_at c.args.r.place)) _ l3

pub put_byte-requires : goal.put_byte-requires
put_byte-requires c =
    let l0 = left-parts c.args.out.now c.args.at _ (refused-parts c.args.r) c.requires in
    let l1 = part-put refused_word _ l0 c.put_word-number.ensures in
    let l2 = part-put (tab ∷ decimal c.args.r.number) _ l1 c.put_behind-gap.ensures in
    let l3 = part-put (tab ∷ []) _ l2 c.put_byte-place.ensures in
    let l4 = part-put (joined (values_at c.args.r.place)) _ l3 c.put_place-end.ensures in
    omega (arith, last-room l4)

pub returns : goal.returns
returns c =
    let l0 = left-parts c.args.out.now c.args.at _ (refused-parts c.args.r) c.requires in
    let l1 = part-put refused_word _ l0 c.put_word-number.ensures in
    let l2 = part-put (tab ∷ decimal c.args.r.number) _ l1 c.put_behind-gap.ensures in
    let l3 = part-put (tab ∷ []) _ l2 c.put_byte-place.ensures in
    let l4 = part-put (joined (values_at c.args.r.place)) _ l3 c.put_place-end.ensures in
    left-last l4 c.put_byte.ensures
