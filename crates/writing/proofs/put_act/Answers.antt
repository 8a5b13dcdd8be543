-- `writing::put_act` meets its contract: field by field.
use mathlib.Core.Path.{sym}
use mathlib.Core.List.{[], ◌∷◌}
use native.Mathlib.Omega.{arith}
use Rattle.print.proofs.LaidLaws.{left-parts, part_room, part-put, left-last, last-room, put_as, nothing_put}
use Rattle.model.specs.Text.{tab as tab_byte, act_word, kind_word, decimal, kind_of}
use Rattle.layout.specs.Image.{comp_of}
use Rattle.writing.proofs.Parts.{has_word, no-act, act-parts}
use Rattle.writing.proofs.put_act.Goals as goal

pub returns-then-not-has : goal.returns-then-not-has
returns-then-not-has c =
    let e = has_word _ _ _ _ _ c.requires.2 c.has.ensures c.if-not-has.true in
    put_as (nothing_put _ _) _ (sym (no-act (comp_of c.args.t.now c.args.i) c.args.a e))

pub put_word-word-requires : goal.put_word-word-requires
put_word-word-requires c =
    let k = comp_of c.args.t.now c.args.i in
    let e = has_word _ _ _ _ _ c.requires.2 c.has.ensures c.if-not-has.false in
    let l0 = left-parts _ _ _ (act-parts k c.args.a e) c.requires.4 in
    part_room act_word _ l0

pub put_behind-number-requires : goal.put_behind-number-requires
put_behind-number-requires c =
    let k = comp_of c.args.t.now c.args.i in
    let e = has_word _ _ _ _ _ c.requires.2 c.has.ensures c.if-not-has.false in
    let l0 = left-parts _ _ _ (act-parts k c.args.a e) c.requires.4 in
    let l1 = part-put act_word _ l0 c.put_word-word.ensures in
    part_room (tab_byte ∷ decimal c.args.a) _ l1

pub put_byte-tab-requires : goal.put_byte-tab-requires
put_byte-tab-requires c =
    let k = comp_of c.args.t.now c.args.i in
    let e = has_word _ _ _ _ _ c.requires.2 c.has.ensures c.if-not-has.false in
    let l0 = left-parts _ _ _ (act-parts k c.args.a e) c.requires.4 in
    let l1 = part-put act_word _ l0 c.put_word-word.ensures in
    let l2 = part-put (tab_byte ∷ decimal c.args.a) _ l1 c.put_behind-number.ensures in
    omega (arith, part_room (tab_byte ∷ []) _ l2)

pub put_kind-kind-requires : goal.put_kind-kind-requires
put_kind-kind-requires c =
    let k = comp_of c.args.t.now c.args.i in
    let e = has_word _ _ _ _ _ c.requires.2 c.has.ensures c.if-not-has.false in
    let l0 = left-parts _ _ _ (act-parts k c.args.a e) c.requires.4 in
    let l1 = part-put act_word _ l0 c.put_word-word.ensures in
    let l2 = part-put (tab_byte ∷ decimal c.args.a) _ l1 c.put_behind-number.ensures in
    let l3 = part-put (tab_byte ∷ []) _ l2 c.put_byte-tab.ensures in
    (c.requires.0, c.requires.1, c.requires.3, part_room (kind_word (kind_of k c.args.a)) _ l3)

pub put_byte-requires : goal.put_byte-requires
put_byte-requires c =
    let k = comp_of c.args.t.now c.args.i in
    let e = has_word _ _ _ _ _ c.requires.2 c.has.ensures c.if-not-has.false in
    let l0 = left-parts _ _ _ (act-parts k c.args.a e) c.requires.4 in
    let l1 = part-put act_word _ l0 c.put_word-word.ensures in
    let l2 = part-put (tab_byte ∷ decimal c.args.a) _ l1 c.put_behind-number.ensures in
    let l3 = part-put (tab_byte ∷ []) _ l2 c.put_byte-tab.ensures in
    let l4 = part-put (kind_word (kind_of k c.args.a)) _ l3 c.put_kind-kind.ensures in
    omega (arith, last-room l4)

pub returns : goal.returns
returns c =
    let k = comp_of c.args.t.now c.args.i in
    let e = has_word _ _ _ _ _ c.requires.2 c.has.ensures c.if-not-has.false in
    let l0 = left-parts _ _ _ (act-parts k c.args.a e) c.requires.4 in
    let l1 = part-put act_word _ l0 c.put_word-word.ensures in
    let l2 = part-put (tab_byte ∷ decimal c.args.a) _ l1 c.put_behind-number.ensures in
    let l3 = part-put (tab_byte ∷ []) _ l2 c.put_byte-tab.ensures in
    let l4 = part-put (kind_word (kind_of k c.args.a)) _ l3 c.put_kind-kind.ensures in
    left-last l4 c.put_byte.ensures
