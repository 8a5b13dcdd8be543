-- `roundlines::put_clock` meets its contract: field by field.
use mathlib.Core.List.{[], ◌∷◌, ◌++◌}
use Rattle.model.specs.Text.{tab, lf, decimal}
use Rattle.roundlines.specs.Lines.{signed, clock_word}
use Rattle.roundlines.proofs.RoundLaws.{clock-parts}
use native.Mathlib.Omega.{arith}
use Rattle.print.proofs.LaidLaws.{left-last, last-room}
use Rattle.tell.proofs.TellLaws.{left-parts, part_room, part-put}
use Rattle.roundlines.proofs.put_clock.Goals as goal

pub put_word-number-requires : goal.put_word-number-requires
put_word-number-requires c = let a = c.args in
    let l0 = left-parts a.out.now a.at (clock_word ++ ((tab ∷ decimal a.x) ++ ((tab ∷ []) ++ ((signed a.below a.n) ++ (lf ∷ []))))) (clock-parts a.x (signed a.below a.n)) c.requires in
    part_room clock_word ((tab ∷ decimal a.x) ++ ((tab ∷ []) ++ ((signed a.below a.n) ++ (lf ∷ [])))) l0

pub put_behind-gap-requires : goal.put_behind-gap-requires
put_behind-gap-requires c = let a = c.args in
    let l0 = left-parts a.out.now a.at (clock_word ++ ((tab ∷ decimal a.x) ++ ((tab ∷ []) ++ ((signed a.below a.n) ++ (lf ∷ []))))) (clock-parts a.x (signed a.below a.n)) c.requires in
    let l1 = part-put clock_word ((tab ∷ decimal a.x) ++ ((tab ∷ []) ++ ((signed a.below a.n) ++ (lf ∷ [])))) l0 c.put_word-number.ensures in
    part_room (tab ∷ decimal a.x) ((tab ∷ []) ++ ((signed a.below a.n) ++ (lf ∷ []))) l1

pub put_byte-value-requires : goal.put_byte-value-requires
put_byte-value-requires c = let a = c.args in
    let l0 = left-parts a.out.now a.at (clock_word ++ ((tab ∷ decimal a.x) ++ ((tab ∷ []) ++ ((signed a.below a.n) ++ (lf ∷ []))))) (clock-parts a.x (signed a.below a.n)) c.requires in
    let l1 = part-put clock_word ((tab ∷ decimal a.x) ++ ((tab ∷ []) ++ ((signed a.below a.n) ++ (lf ∷ [])))) l0 c.put_word-number.ensures in
    let l2 = part-put (tab ∷ decimal a.x) ((tab ∷ []) ++ ((signed a.below a.n) ++ (lf ∷ []))) l1 c.put_behind-gap.ensures in
    omega (arith, part_room (tab ∷ []) ((signed a.below a.n) ++ (lf ∷ [])) l2)

pub put_value-end-requires : goal.put_value-end-requires
put_value-end-requires c = let a = c.args in
    let l0 = left-parts a.out.now a.at (clock_word ++ ((tab ∷ decimal a.x) ++ ((tab ∷ []) ++ ((signed a.below a.n) ++ (lf ∷ []))))) (clock-parts a.x (signed a.below a.n)) c.requires in
    let l1 = part-put clock_word ((tab ∷ decimal a.x) ++ ((tab ∷ []) ++ ((signed a.below a.n) ++ (lf ∷ [])))) l0 c.put_word-number.ensures in
    let l2 = part-put (tab ∷ decimal a.x) ((tab ∷ []) ++ ((signed a.below a.n) ++ (lf ∷ []))) l1 c.put_behind-gap.ensures in
    let l3 = part-put (tab ∷ []) ((signed a.below a.n) ++ (lf ∷ [])) l2 c.put_byte-value.ensures in
    part_room (signed a.below a.n) (lf ∷ []) l3

pub put_byte-requires : goal.put_byte-requires
put_byte-requires c = let a = c.args in
    let l0 = left-parts a.out.now a.at (clock_word ++ ((tab ∷ decimal a.x) ++ ((tab ∷ []) ++ ((signed a.below a.n) ++ (lf ∷ []))))) (clock-parts a.x (signed a.below a.n)) c.requires in
    let l1 = part-put clock_word ((tab ∷ decimal a.x) ++ ((tab ∷ []) ++ ((signed a.below a.n) ++ (lf ∷ [])))) l0 c.put_word-number.ensures in
    let l2 = part-put (tab ∷ decimal a.x) ((tab ∷ []) ++ ((signed a.below a.n) ++ (lf ∷ []))) l1 c.put_behind-gap.ensures in
    let l3 = part-put (tab ∷ []) ((signed a.below a.n) ++ (lf ∷ [])) l2 c.put_byte-value.ensures in
    let l4 = part-put (signed a.below a.n) (lf ∷ []) l3 c.put_value-end.ensures in
    omega (arith, last-room l4)

pub returns : goal.returns
returns c = let a = c.args in
    let l0 = left-parts a.out.now a.at (clock_word ++ ((tab ∷ decimal a.x) ++ ((tab ∷ []) ++ ((signed a.below a.n) ++ (lf ∷ []))))) (clock-parts a.x (signed a.below a.n)) c.requires in
    let l1 = part-put clock_word ((tab ∷ decimal a.x) ++ ((tab ∷ []) ++ ((signed a.below a.n) ++ (lf ∷ [])))) l0 c.put_word-number.ensures in
    let l2 = part-put (tab ∷ decimal a.x) ((tab ∷ []) ++ ((signed a.below a.n) ++ (lf ∷ []))) l1 c.put_behind-gap.ensures in
    let l3 = part-put (tab ∷ []) ((signed a.below a.n) ++ (lf ∷ [])) l2 c.put_byte-value.ensures in
    let l4 = part-put (signed a.below a.n) (lf ∷ []) l3 c.put_value-end.ensures in
    left-last l4 c.put_byte.ensures
