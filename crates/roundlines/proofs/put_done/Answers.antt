-- `roundlines::put_done` meets its contract: field by field.
use mathlib.Core.List.{[], ◌∷◌, ◌++◌}
use Rattle.answer.specs.State.{parts_of}
use Rattle.model.specs.Text.{tab, lf, decimal, joined}
use Rattle.roundlines.specs.Lines.{done_word}
use Rattle.roundlines.proofs.RoundLaws.{done-parts}
use native.Mathlib.Omega.{arith}
use Rattle.print.proofs.LaidLaws.{left-last, last-room}
use Rattle.tell.proofs.TellLaws.{left-parts, part_room, part-put}
use Rattle.roundlines.proofs.put_done.Goals as goal

pub put_word-number-requires : goal.put_word-number-requires
put_word-number-requires c = let a = c.args in
    let l0 = left-parts a.out.now a.at (done_word ++ ((tab ∷ decimal a.k) ++ ((tab ∷ []) ++ ((joined (parts_of a.x)) ++ (lf ∷ []))))) (done-parts a.k (parts_of a.x)) c.requires.1 in
    part_room done_word ((tab ∷ decimal a.k) ++ ((tab ∷ []) ++ ((joined (parts_of a.x)) ++ (lf ∷ [])))) l0

pub put_behind-gap-requires : goal.put_behind-gap-requires
put_behind-gap-requires c = let a = c.args in
    let l0 = left-parts a.out.now a.at (done_word ++ ((tab ∷ decimal a.k) ++ ((tab ∷ []) ++ ((joined (parts_of a.x)) ++ (lf ∷ []))))) (done-parts a.k (parts_of a.x)) c.requires.1 in
    let l1 = part-put done_word ((tab ∷ decimal a.k) ++ ((tab ∷ []) ++ ((joined (parts_of a.x)) ++ (lf ∷ [])))) l0 c.put_word-number.ensures in
    part_room (tab ∷ decimal a.k) ((tab ∷ []) ++ ((joined (parts_of a.x)) ++ (lf ∷ []))) l1

pub put_byte-state-requires : goal.put_byte-state-requires
put_byte-state-requires c = let a = c.args in
    let l0 = left-parts a.out.now a.at (done_word ++ ((tab ∷ decimal a.k) ++ ((tab ∷ []) ++ ((joined (parts_of a.x)) ++ (lf ∷ []))))) (done-parts a.k (parts_of a.x)) c.requires.1 in
    let l1 = part-put done_word ((tab ∷ decimal a.k) ++ ((tab ∷ []) ++ ((joined (parts_of a.x)) ++ (lf ∷ [])))) l0 c.put_word-number.ensures in
    let l2 = part-put (tab ∷ decimal a.k) ((tab ∷ []) ++ ((joined (parts_of a.x)) ++ (lf ∷ []))) l1 c.put_behind-gap.ensures in
    omega (arith, part_room (tab ∷ []) ((joined (parts_of a.x)) ++ (lf ∷ [])) l2)

pub put_state-end-requires : goal.put_state-end-requires
put_state-end-requires c = let a = c.args in
    let l0 = left-parts a.out.now a.at (done_word ++ ((tab ∷ decimal a.k) ++ ((tab ∷ []) ++ ((joined (parts_of a.x)) ++ (lf ∷ []))))) (done-parts a.k (parts_of a.x)) c.requires.1 in
    let l1 = part-put done_word ((tab ∷ decimal a.k) ++ ((tab ∷ []) ++ ((joined (parts_of a.x)) ++ (lf ∷ [])))) l0 c.put_word-number.ensures in
    let l2 = part-put (tab ∷ decimal a.k) ((tab ∷ []) ++ ((joined (parts_of a.x)) ++ (lf ∷ []))) l1 c.put_behind-gap.ensures in
    let l3 = part-put (tab ∷ []) ((joined (parts_of a.x)) ++ (lf ∷ [])) l2 c.put_byte-state.ensures in
    (c.requires.0, part_room (joined (parts_of a.x)) (lf ∷ []) l3)

pub put_byte-requires : goal.put_byte-requires
put_byte-requires c = let a = c.args in
    let l0 = left-parts a.out.now a.at (done_word ++ ((tab ∷ decimal a.k) ++ ((tab ∷ []) ++ ((joined (parts_of a.x)) ++ (lf ∷ []))))) (done-parts a.k (parts_of a.x)) c.requires.1 in
    let l1 = part-put done_word ((tab ∷ decimal a.k) ++ ((tab ∷ []) ++ ((joined (parts_of a.x)) ++ (lf ∷ [])))) l0 c.put_word-number.ensures in
    let l2 = part-put (tab ∷ decimal a.k) ((tab ∷ []) ++ ((joined (parts_of a.x)) ++ (lf ∷ []))) l1 c.put_behind-gap.ensures in
    let l3 = part-put (tab ∷ []) ((joined (parts_of a.x)) ++ (lf ∷ [])) l2 c.put_byte-state.ensures in
    let l4 = part-put (joined (parts_of a.x)) (lf ∷ []) l3 c.put_state-end.ensures in
    omega (arith, last-room l4)

pub returns : goal.returns
returns c = let a = c.args in
    let l0 = left-parts a.out.now a.at (done_word ++ ((tab ∷ decimal a.k) ++ ((tab ∷ []) ++ ((joined (parts_of a.x)) ++ (lf ∷ []))))) (done-parts a.k (parts_of a.x)) c.requires.1 in
    let l1 = part-put done_word ((tab ∷ decimal a.k) ++ ((tab ∷ []) ++ ((joined (parts_of a.x)) ++ (lf ∷ [])))) l0 c.put_word-number.ensures in
    let l2 = part-put (tab ∷ decimal a.k) ((tab ∷ []) ++ ((joined (parts_of a.x)) ++ (lf ∷ []))) l1 c.put_behind-gap.ensures in
    let l3 = part-put (tab ∷ []) ((joined (parts_of a.x)) ++ (lf ∷ [])) l2 c.put_byte-state.ensures in
    let l4 = part-put (joined (parts_of a.x)) (lf ∷ []) l3 c.put_state-end.ensures in
    left-last l4 c.put_byte.ensures
