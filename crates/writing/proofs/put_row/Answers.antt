-- `writing::put_row` meets its contract: field by field.
use mathlib.Core.List.{[], ◌∷◌}
use native.Mathlib.Omega.{arith}
use Rattle.print.proofs.LaidLaws.{left-parts, part_room, part-put, left-last, last-room}
use Rattle.model.specs.Text.{tab as tab_byte, row_word, decimal, guard_field, set_field}
use Rattle.writing.proofs.Parts.{row-parts}
use Rattle.writing.proofs.put_row.Goals as goal

pub put_word-word-requires : goal.put_word-word-requires
put_word-word-requires c =
    let a = c.args in
    let g = c.guard_at-g in
    let x = c.action_at-a in
    let y = c.resets_at-resets in
    let z = c.target_at-to in
    let e = row-parts a.t.now a.s a.r g.result x.result y.result z.result g.ensures x.ensures y.ensures z.ensures in
    let l0 = left-parts _ _ _ e c.requires.2 in
    part_room row_word _ l0

pub put_behind-from-requires : goal.put_behind-from-requires
put_behind-from-requires c =
    let a = c.args in
    let g = c.guard_at-g in
    let x = c.action_at-a in
    let y = c.resets_at-resets in
    let z = c.target_at-to in
    let e = row-parts a.t.now a.s a.r g.result x.result y.result z.result g.ensures x.ensures y.ensures z.ensures in
    let l0 = left-parts _ _ _ e c.requires.2 in
    let l1 = part-put row_word _ l0 c.put_word-word.ensures in
    part_room (tab_byte ∷ decimal a.s) _ l1

pub put_byte-tab-requires : goal.put_byte-tab-requires
put_byte-tab-requires c =
    let a = c.args in
    let g = c.guard_at-g in
    let x = c.action_at-a in
    let y = c.resets_at-resets in
    let z = c.target_at-to in
    let e = row-parts a.t.now a.s a.r g.result x.result y.result z.result g.ensures x.ensures y.ensures z.ensures in
    let l0 = left-parts _ _ _ e c.requires.2 in
    let l1 = part-put row_word _ l0 c.put_word-word.ensures in
    let l2 = part-put (tab_byte ∷ decimal a.s) _ l1 c.put_behind-from.ensures in
    omega (arith, part_room (tab_byte ∷ []) _ l2)

pub put_guard-guard-requires : goal.put_guard-guard-requires
put_guard-guard-requires c =
    let a = c.args in
    let g = c.guard_at-g in
    let x = c.action_at-a in
    let y = c.resets_at-resets in
    let z = c.target_at-to in
    let e = row-parts a.t.now a.s a.r g.result x.result y.result z.result g.ensures x.ensures y.ensures z.ensures in
    let l0 = left-parts _ _ _ e c.requires.2 in
    let l1 = part-put row_word _ l0 c.put_word-word.ensures in
    let l2 = part-put (tab_byte ∷ decimal a.s) _ l1 c.put_behind-from.ensures in
    let l3 = part-put (tab_byte ∷ []) _ l2 c.put_byte-tab.ensures in
    part_room (guard_field g.result) _ l3

pub put_behind-action-requires : goal.put_behind-action-requires
put_behind-action-requires c =
    let a = c.args in
    let g = c.guard_at-g in
    let x = c.action_at-a in
    let y = c.resets_at-resets in
    let z = c.target_at-to in
    let e = row-parts a.t.now a.s a.r g.result x.result y.result z.result g.ensures x.ensures y.ensures z.ensures in
    let l0 = left-parts _ _ _ e c.requires.2 in
    let l1 = part-put row_word _ l0 c.put_word-word.ensures in
    let l2 = part-put (tab_byte ∷ decimal a.s) _ l1 c.put_behind-from.ensures in
    let l3 = part-put (tab_byte ∷ []) _ l2 c.put_byte-tab.ensures in
    let l4 = part-put (guard_field g.result) _ l3 c.put_guard-guard.ensures in
    part_room (tab_byte ∷ decimal x.result) _ l4

pub put_byte-tab2-requires : goal.put_byte-tab2-requires
put_byte-tab2-requires c =
    let a = c.args in
    let g = c.guard_at-g in
    let x = c.action_at-a in
    let y = c.resets_at-resets in
    let z = c.target_at-to in
    let e = row-parts a.t.now a.s a.r g.result x.result y.result z.result g.ensures x.ensures y.ensures z.ensures in
    let l0 = left-parts _ _ _ e c.requires.2 in
    let l1 = part-put row_word _ l0 c.put_word-word.ensures in
    let l2 = part-put (tab_byte ∷ decimal a.s) _ l1 c.put_behind-from.ensures in
    let l3 = part-put (tab_byte ∷ []) _ l2 c.put_byte-tab.ensures in
    let l4 = part-put (guard_field g.result) _ l3 c.put_guard-guard.ensures in
    let l5 = part-put (tab_byte ∷ decimal x.result) _ l4 c.put_behind-action.ensures in
    omega (arith, part_room (tab_byte ∷ []) _ l5)

pub put_set-set-requires : goal.put_set-set-requires
put_set-set-requires c =
    let a = c.args in
    let g = c.guard_at-g in
    let x = c.action_at-a in
    let y = c.resets_at-resets in
    let z = c.target_at-to in
    let e = row-parts a.t.now a.s a.r g.result x.result y.result z.result g.ensures x.ensures y.ensures z.ensures in
    let l0 = left-parts _ _ _ e c.requires.2 in
    let l1 = part-put row_word _ l0 c.put_word-word.ensures in
    let l2 = part-put (tab_byte ∷ decimal a.s) _ l1 c.put_behind-from.ensures in
    let l3 = part-put (tab_byte ∷ []) _ l2 c.put_byte-tab.ensures in
    let l4 = part-put (guard_field g.result) _ l3 c.put_guard-guard.ensures in
    let l5 = part-put (tab_byte ∷ decimal x.result) _ l4 c.put_behind-action.ensures in
    let l6 = part-put (tab_byte ∷ []) _ l5 c.put_byte-tab2.ensures in
    part_room (set_field y.result) _ l6

pub put_behind-target-requires : goal.put_behind-target-requires
put_behind-target-requires c =
    let a = c.args in
    let g = c.guard_at-g in
    let x = c.action_at-a in
    let y = c.resets_at-resets in
    let z = c.target_at-to in
    let e = row-parts a.t.now a.s a.r g.result x.result y.result z.result g.ensures x.ensures y.ensures z.ensures in
    let l0 = left-parts _ _ _ e c.requires.2 in
    let l1 = part-put row_word _ l0 c.put_word-word.ensures in
    let l2 = part-put (tab_byte ∷ decimal a.s) _ l1 c.put_behind-from.ensures in
    let l3 = part-put (tab_byte ∷ []) _ l2 c.put_byte-tab.ensures in
    let l4 = part-put (guard_field g.result) _ l3 c.put_guard-guard.ensures in
    let l5 = part-put (tab_byte ∷ decimal x.result) _ l4 c.put_behind-action.ensures in
    let l6 = part-put (tab_byte ∷ []) _ l5 c.put_byte-tab2.ensures in
    let l7 = part-put (set_field y.result) _ l6 c.put_set-set.ensures in
    part_room (tab_byte ∷ decimal z.result) _ l7

pub put_byte-requires : goal.put_byte-requires
put_byte-requires c =
    let a = c.args in
    let g = c.guard_at-g in
    let x = c.action_at-a in
    let y = c.resets_at-resets in
    let z = c.target_at-to in
    let e = row-parts a.t.now a.s a.r g.result x.result y.result z.result g.ensures x.ensures y.ensures z.ensures in
    let l0 = left-parts _ _ _ e c.requires.2 in
    let l1 = part-put row_word _ l0 c.put_word-word.ensures in
    let l2 = part-put (tab_byte ∷ decimal a.s) _ l1 c.put_behind-from.ensures in
    let l3 = part-put (tab_byte ∷ []) _ l2 c.put_byte-tab.ensures in
    let l4 = part-put (guard_field g.result) _ l3 c.put_guard-guard.ensures in
    let l5 = part-put (tab_byte ∷ decimal x.result) _ l4 c.put_behind-action.ensures in
    let l6 = part-put (tab_byte ∷ []) _ l5 c.put_byte-tab2.ensures in
    let l7 = part-put (set_field y.result) _ l6 c.put_set-set.ensures in
    let l8 = part-put (tab_byte ∷ decimal z.result) _ l7 c.put_behind-target.ensures in
    omega (arith, last-room l8)

pub returns : goal.returns
returns c =
    let a = c.args in
    let g = c.guard_at-g in
    let x = c.action_at-a in
    let y = c.resets_at-resets in
    let z = c.target_at-to in
    let e = row-parts a.t.now a.s a.r g.result x.result y.result z.result g.ensures x.ensures y.ensures z.ensures in
    let l0 = left-parts _ _ _ e c.requires.2 in
    let l1 = part-put row_word _ l0 c.put_word-word.ensures in
    let l2 = part-put (tab_byte ∷ decimal a.s) _ l1 c.put_behind-from.ensures in
    let l3 = part-put (tab_byte ∷ []) _ l2 c.put_byte-tab.ensures in
    let l4 = part-put (guard_field g.result) _ l3 c.put_guard-guard.ensures in
    let l5 = part-put (tab_byte ∷ decimal x.result) _ l4 c.put_behind-action.ensures in
    let l6 = part-put (tab_byte ∷ []) _ l5 c.put_byte-tab2.ensures in
    let l7 = part-put (set_field y.result) _ l6 c.put_set-set.ensures in
    let l8 = part-put (tab_byte ∷ decimal z.result) _ l7 c.put_behind-target.ensures in
    left-last l8 c.put_byte.ensures
