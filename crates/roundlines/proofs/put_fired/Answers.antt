-- `roundlines::put_fired` meets its contract: field by field.
use mathlib.Core.List.{[], ◌∷◌, ◌++◌}
use Rattle.model.specs.Text.{tab, decimal, guard_field}
use Rattle.roundlines.specs.Lines.{long}
use Rattle.roundlines.proofs.RoundLaws.{fired-parts}
use native.Mathlib.Omega.{arith}
use Rattle.print.proofs.LaidLaws.{left-last, last-room}
use Rattle.tell.proofs.TellLaws.{left-parts, part_room, part-put}
use Rattle.roundlines.proofs.put_fired.Goals as goal

pub put_decimal-gap-requires : goal.put_decimal-gap-requires
put_decimal-gap-requires c = let a = c.args in
    let l0 = left-parts a.out.now a.at ((decimal a.k) ++ ((tab ∷ []) ++ ((long a.ticks) ++ ((tab ∷ []) ++ (guard_field a.g))))) (fired-parts a.k a.ticks a.g) c.requires in
    part_room (decimal a.k) ((tab ∷ []) ++ ((long a.ticks) ++ ((tab ∷ []) ++ (guard_field a.g)))) l0

pub put_byte-time-requires : goal.put_byte-time-requires
put_byte-time-requires c = let a = c.args in
    let l0 = left-parts a.out.now a.at ((decimal a.k) ++ ((tab ∷ []) ++ ((long a.ticks) ++ ((tab ∷ []) ++ (guard_field a.g))))) (fired-parts a.k a.ticks a.g) c.requires in
    let l1 = part-put (decimal a.k) ((tab ∷ []) ++ ((long a.ticks) ++ ((tab ∷ []) ++ (guard_field a.g)))) l0 c.put_decimal-gap.ensures in
    omega (arith, part_room (tab ∷ []) ((long a.ticks) ++ ((tab ∷ []) ++ (guard_field a.g))) l1)

pub put_long-tab-requires : goal.put_long-tab-requires
put_long-tab-requires c = let a = c.args in
    let l0 = left-parts a.out.now a.at ((decimal a.k) ++ ((tab ∷ []) ++ ((long a.ticks) ++ ((tab ∷ []) ++ (guard_field a.g))))) (fired-parts a.k a.ticks a.g) c.requires in
    let l1 = part-put (decimal a.k) ((tab ∷ []) ++ ((long a.ticks) ++ ((tab ∷ []) ++ (guard_field a.g)))) l0 c.put_decimal-gap.ensures in
    let l2 = part-put (tab ∷ []) ((long a.ticks) ++ ((tab ∷ []) ++ (guard_field a.g))) l1 c.put_byte-time.ensures in
    part_room (long a.ticks) ((tab ∷ []) ++ (guard_field a.g)) l2

pub put_byte-action-requires : goal.put_byte-action-requires
put_byte-action-requires c = let a = c.args in
    let l0 = left-parts a.out.now a.at ((decimal a.k) ++ ((tab ∷ []) ++ ((long a.ticks) ++ ((tab ∷ []) ++ (guard_field a.g))))) (fired-parts a.k a.ticks a.g) c.requires in
    let l1 = part-put (decimal a.k) ((tab ∷ []) ++ ((long a.ticks) ++ ((tab ∷ []) ++ (guard_field a.g)))) l0 c.put_decimal-gap.ensures in
    let l2 = part-put (tab ∷ []) ((long a.ticks) ++ ((tab ∷ []) ++ (guard_field a.g))) l1 c.put_byte-time.ensures in
    let l3 = part-put (long a.ticks) ((tab ∷ []) ++ (guard_field a.g)) l2 c.put_long-tab.ensures in
    omega (arith, part_room (tab ∷ []) (guard_field a.g) l3)

pub put_guard-requires : goal.put_guard-requires
put_guard-requires c = let a = c.args in
    let l0 = left-parts a.out.now a.at ((decimal a.k) ++ ((tab ∷ []) ++ ((long a.ticks) ++ ((tab ∷ []) ++ (guard_field a.g))))) (fired-parts a.k a.ticks a.g) c.requires in
    let l1 = part-put (decimal a.k) ((tab ∷ []) ++ ((long a.ticks) ++ ((tab ∷ []) ++ (guard_field a.g)))) l0 c.put_decimal-gap.ensures in
    let l2 = part-put (tab ∷ []) ((long a.ticks) ++ ((tab ∷ []) ++ (guard_field a.g))) l1 c.put_byte-time.ensures in
    let l3 = part-put (long a.ticks) ((tab ∷ []) ++ (guard_field a.g)) l2 c.put_long-tab.ensures in
    let l4 = part-put (tab ∷ []) (guard_field a.g) l3 c.put_byte-action.ensures in
    last-room l4

pub returns : goal.returns
returns c = let a = c.args in
    let l0 = left-parts a.out.now a.at ((decimal a.k) ++ ((tab ∷ []) ++ ((long a.ticks) ++ ((tab ∷ []) ++ (guard_field a.g))))) (fired-parts a.k a.ticks a.g) c.requires in
    let l1 = part-put (decimal a.k) ((tab ∷ []) ++ ((long a.ticks) ++ ((tab ∷ []) ++ (guard_field a.g)))) l0 c.put_decimal-gap.ensures in
    let l2 = part-put (tab ∷ []) ((long a.ticks) ++ ((tab ∷ []) ++ (guard_field a.g))) l1 c.put_byte-time.ensures in
    let l3 = part-put (long a.ticks) ((tab ∷ []) ++ (guard_field a.g)) l2 c.put_long-tab.ensures in
    let l4 = part-put (tab ∷ []) (guard_field a.g) l3 c.put_byte-action.ensures in
    left-last l4 c.put_guard.ensures
