-- `tell::put_tail` meets its contract: what is left of the line is known after each call.
use mathlib.Core.List.{[], ◌∷◌}
use native.Mathlib.Omega.{arith}
use Rattle.answer.specs.State.{parts_of}
use Rattle.model.specs.Text.{tab, joined, set_field}
use Rattle.print.proofs.LaidLaws.{left-parts, part_room, part-put, left-last, last-room}
use Rattle.tell.proofs.TellLaws.{tail-parts}
use Rattle.tell.proofs.put_tail.Goals as goal

pub put_byte-set-requires : goal.put_byte-set-requires
put_byte-set-requires c =
    let l0 = left-parts c.args.out.now c.args.at _ (tail-parts c.args.resets (parts_of c.args.x)) c.requires.1 in
    omega (arith, part_room (tab ∷ []) _ l0)

pub put_set-gap-requires : goal.put_set-gap-requires
put_set-gap-requires c =
    let l0 = left-parts c.args.out.now c.args.at _ (tail-parts c.args.resets (parts_of c.args.x)) c.requires.1 in
    let l1 = part-put (tab ∷ []) _ l0 c.put_byte-set.ensures in
    part_room (set_field c.args.resets) _ l1

pub put_byte-state-requires : goal.put_byte-state-requires
put_byte-state-requires c =
    let l0 = left-parts c.args.out.now c.args.at _ (tail-parts c.args.resets (parts_of c.args.x)) c.requires.1 in
    let l1 = part-put (tab ∷ []) _ l0 c.put_byte-set.ensures in
    let l2 = part-put (set_field c.args.resets) _ l1 c.put_set-gap.ensures in
    omega (arith, part_room (tab ∷ []) _ l2)

pub put_state-end-requires : goal.put_state-end-requires
put_state-end-requires c =
    let l0 = left-parts c.args.out.now c.args.at _ (tail-parts c.args.resets (parts_of c.args.x)) c.requires.1 in
    let l1 = part-put (tab ∷ []) _ l0 c.put_byte-set.ensures in
    let l2 = part-put (set_field c.args.resets) _ l1 c.put_set-gap.ensures in
    let l3 = part-put (tab ∷ []) _ l2 c.put_byte-state.ensures in
    (c.requires.0, part_room (joined (parts_of c.args.x)) _ l3)

pub put_byte-requires : goal.put_byte-requires
put_byte-requires c =
    let l0 = left-parts c.args.out.now c.args.at _ (tail-parts c.args.resets (parts_of c.args.x)) c.requires.1 in
    let l1 = part-put (tab ∷ []) _ l0 c.put_byte-set.ensures in
    let l2 = part-put (set_field c.args.resets) _ l1 c.put_set-gap.ensures in
    let l3 = part-put (tab ∷ []) _ l2 c.put_byte-state.ensures in
    let l4 = part-put (joined (parts_of c.args.x)) _ l3 c.put_state-end.ensures in
    omega (arith, last-room l4)

pub returns : goal.returns
returns c =
    let l0 = left-parts c.args.out.now c.args.at _ (tail-parts c.args.resets (parts_of c.args.x)) c.requires.1 in
    let l1 = part-put (tab ∷ []) _ l0 c.put_byte-set.ensures in
    let l2 = part-put (set_field c.args.resets) _ l1 c.put_set-gap.ensures in
    let l3 = part-put (tab ∷ []) _ l2 c.put_byte-state.ensures in
    let l4 = part-put (joined (parts_of c.args.x)) _ l3 c.put_state-end.ensures in
    left-last l4 c.put_byte.ensures
