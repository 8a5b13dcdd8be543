-- `roundlines::put_stood` meets its contract: field by field.
use mathlib.Core.List.{[], ◌∷◌, ◌++◌}
use Rattle.answer.specs.State.{parts_of}
use Rattle.model.specs.Text.{tab, lf, joined, set_field}
use Rattle.roundlines.proofs.RoundLaws.{stood-parts}
use native.Mathlib.Omega.{arith}
use Rattle.print.proofs.LaidLaws.{left-last, last-room}
use Rattle.tell.proofs.TellLaws.{left-parts, part_room, part-put}
use Rattle.roundlines.proofs.put_stood.Goals as goal

pub put_byte-state-requires : goal.put_byte-state-requires
put_byte-state-requires c = let a = c.args in
    let l0 = left-parts a.out.now a.at ((tab ∷ []) ++ ((joined (parts_of a.x)) ++ ((tab ∷ []) ++ ((set_field a.resets) ++ (lf ∷ []))))) (stood-parts (parts_of a.x) a.resets) c.requires.1 in
    omega (arith, part_room (tab ∷ []) ((joined (parts_of a.x)) ++ ((tab ∷ []) ++ ((set_field a.resets) ++ (lf ∷ [])))) l0)

pub put_state-gap-requires : goal.put_state-gap-requires
put_state-gap-requires c = let a = c.args in
    let l0 = left-parts a.out.now a.at ((tab ∷ []) ++ ((joined (parts_of a.x)) ++ ((tab ∷ []) ++ ((set_field a.resets) ++ (lf ∷ []))))) (stood-parts (parts_of a.x) a.resets) c.requires.1 in
    let l1 = part-put (tab ∷ []) ((joined (parts_of a.x)) ++ ((tab ∷ []) ++ ((set_field a.resets) ++ (lf ∷ [])))) l0 c.put_byte-state.ensures in
    (c.requires.0, part_room (joined (parts_of a.x)) ((tab ∷ []) ++ ((set_field a.resets) ++ (lf ∷ []))) l1)

pub put_byte-set-requires : goal.put_byte-set-requires
put_byte-set-requires c = let a = c.args in
    let l0 = left-parts a.out.now a.at ((tab ∷ []) ++ ((joined (parts_of a.x)) ++ ((tab ∷ []) ++ ((set_field a.resets) ++ (lf ∷ []))))) (stood-parts (parts_of a.x) a.resets) c.requires.1 in
    let l1 = part-put (tab ∷ []) ((joined (parts_of a.x)) ++ ((tab ∷ []) ++ ((set_field a.resets) ++ (lf ∷ [])))) l0 c.put_byte-state.ensures in
    let l2 = part-put (joined (parts_of a.x)) ((tab ∷ []) ++ ((set_field a.resets) ++ (lf ∷ []))) l1 c.put_state-gap.ensures in
    omega (arith, part_room (tab ∷ []) ((set_field a.resets) ++ (lf ∷ [])) l2)

pub put_set-end-requires : goal.put_set-end-requires
put_set-end-requires c = let a = c.args in
    let l0 = left-parts a.out.now a.at ((tab ∷ []) ++ ((joined (parts_of a.x)) ++ ((tab ∷ []) ++ ((set_field a.resets) ++ (lf ∷ []))))) (stood-parts (parts_of a.x) a.resets) c.requires.1 in
    let l1 = part-put (tab ∷ []) ((joined (parts_of a.x)) ++ ((tab ∷ []) ++ ((set_field a.resets) ++ (lf ∷ [])))) l0 c.put_byte-state.ensures in
    let l2 = part-put (joined (parts_of a.x)) ((tab ∷ []) ++ ((set_field a.resets) ++ (lf ∷ []))) l1 c.put_state-gap.ensures in
    let l3 = part-put (tab ∷ []) ((set_field a.resets) ++ (lf ∷ [])) l2 c.put_byte-set.ensures in
    part_room (set_field a.resets) (lf ∷ []) l3

pub put_byte-requires : goal.put_byte-requires
put_byte-requires c = let a = c.args in
    let l0 = left-parts a.out.now a.at ((tab ∷ []) ++ ((joined (parts_of a.x)) ++ ((tab ∷ []) ++ ((set_field a.resets) ++ (lf ∷ []))))) (stood-parts (parts_of a.x) a.resets) c.requires.1 in
    let l1 = part-put (tab ∷ []) ((joined (parts_of a.x)) ++ ((tab ∷ []) ++ ((set_field a.resets) ++ (lf ∷ [])))) l0 c.put_byte-state.ensures in
    let l2 = part-put (joined (parts_of a.x)) ((tab ∷ []) ++ ((set_field a.resets) ++ (lf ∷ []))) l1 c.put_state-gap.ensures in
    let l3 = part-put (tab ∷ []) ((set_field a.resets) ++ (lf ∷ [])) l2 c.put_byte-set.ensures in
    let l4 = part-put (set_field a.resets) (lf ∷ []) l3 c.put_set-end.ensures in
    omega (arith, last-room l4)

pub returns : goal.returns
returns c = let a = c.args in
    let l0 = left-parts a.out.now a.at ((tab ∷ []) ++ ((joined (parts_of a.x)) ++ ((tab ∷ []) ++ ((set_field a.resets) ++ (lf ∷ []))))) (stood-parts (parts_of a.x) a.resets) c.requires.1 in
    let l1 = part-put (tab ∷ []) ((joined (parts_of a.x)) ++ ((tab ∷ []) ++ ((set_field a.resets) ++ (lf ∷ [])))) l0 c.put_byte-state.ensures in
    let l2 = part-put (joined (parts_of a.x)) ((tab ∷ []) ++ ((set_field a.resets) ++ (lf ∷ []))) l1 c.put_state-gap.ensures in
    let l3 = part-put (tab ∷ []) ((set_field a.resets) ++ (lf ∷ [])) l2 c.put_byte-set.ensures in
    let l4 = part-put (set_field a.resets) (lf ∷ []) l3 c.put_set-end.ensures in
    left-last l4 c.put_byte.ensures
