-- `writing::put_clk` meets its contract: field by field.
use mathlib.Core.Path.{sym, ◌∙◌, ap}
use mathlib.Core.Bool.{cond}
use mathlib.Core.List.{◌∷◌}
use native.Mathlib.Omega.{arith}
use Rattle.laws.specs.Sets.{has}
use Rattle.print.proofs.LaidLaws.{left-parts, part_room, part-put, left-last, last-room, put_as, nothing_put}
use Rattle.model.specs.Text.{tab as tab_byte, clk_word, decimal}
use Rattle.layout.specs.Image.{comp_of}
use Rattle.writing.proofs.Parts.{has_word, no-clk, clk-parts}
use Rattle.writing.proofs.put_clk.Goals as goal

pub returns-then-not-has : goal.returns-then-not-has
unfolding comp_of
returns-then-not-has c =
    let e = has_word _ _ _ _ _ c.block_word.ensures c.has.ensures c.if-not-has.true in
    put_as (nothing_put _ _) _ (sym (no-clk (comp_of c.args.t.now c.args.i) c.args.x e))

pub put_word-word-requires : goal.put_word-word-requires
unfolding comp_of
put_word-word-requires c =
    let k = comp_of c.args.t.now c.args.i in
    let x = c.args.x in
    let n = c.flag-set.result in
    let e = has_word _ _ _ _ _ c.block_word.ensures c.has.ensures c.if-not-has.false in
    let f = c.flag-set.ensures ∙ ap (λ v. cond v 1 0) (c.has-2.ensures ∙ ap (λ w. has w x) c.block_word-2.ensures) in
    let l0 = left-parts _ _ _ (clk-parts k x n e f) c.requires.3 in
    part_room clk_word _ l0

pub put_behind-number-requires : goal.put_behind-number-requires
unfolding comp_of
put_behind-number-requires c =
    let k = comp_of c.args.t.now c.args.i in
    let x = c.args.x in
    let n = c.flag-set.result in
    let e = has_word _ _ _ _ _ c.block_word.ensures c.has.ensures c.if-not-has.false in
    let f = c.flag-set.ensures ∙ ap (λ v. cond v 1 0) (c.has-2.ensures ∙ ap (λ w. has w x) c.block_word-2.ensures) in
    let l0 = left-parts _ _ _ (clk-parts k x n e f) c.requires.3 in
    let l1 = part-put clk_word _ l0 c.put_word-word.ensures in
    part_room (tab_byte ∷ decimal x) _ l1

pub put_behind-start-requires : goal.put_behind-start-requires
unfolding comp_of
put_behind-start-requires c =
    let k = comp_of c.args.t.now c.args.i in
    let x = c.args.x in
    let n = c.flag-set.result in
    let e = has_word _ _ _ _ _ c.block_word.ensures c.has.ensures c.if-not-has.false in
    let f = c.flag-set.ensures ∙ ap (λ v. cond v 1 0) (c.has-2.ensures ∙ ap (λ w. has w x) c.block_word-2.ensures) in
    let l0 = left-parts _ _ _ (clk-parts k x n e f) c.requires.3 in
    let l1 = part-put clk_word _ l0 c.put_word-word.ensures in
    let l2 = part-put (tab_byte ∷ decimal x) _ l1 c.put_behind-number.ensures in
    part_room (tab_byte ∷ decimal n) _ l2

pub put_byte-requires : goal.put_byte-requires
unfolding comp_of
put_byte-requires c =
    let k = comp_of c.args.t.now c.args.i in
    let x = c.args.x in
    let n = c.flag-set.result in
    let e = has_word _ _ _ _ _ c.block_word.ensures c.has.ensures c.if-not-has.false in
    let f = c.flag-set.ensures ∙ ap (λ v. cond v 1 0) (c.has-2.ensures ∙ ap (λ w. has w x) c.block_word-2.ensures) in
    let l0 = left-parts _ _ _ (clk-parts k x n e f) c.requires.3 in
    let l1 = part-put clk_word _ l0 c.put_word-word.ensures in
    let l2 = part-put (tab_byte ∷ decimal x) _ l1 c.put_behind-number.ensures in
    let l3 = part-put (tab_byte ∷ decimal n) _ l2 c.put_behind-start.ensures in
    omega (arith, last-room l3)

pub returns : goal.returns
unfolding comp_of
returns c =
    let k = comp_of c.args.t.now c.args.i in
    let x = c.args.x in
    let n = c.flag-set.result in
    let e = has_word _ _ _ _ _ c.block_word.ensures c.has.ensures c.if-not-has.false in
    let f = c.flag-set.ensures ∙ ap (λ v. cond v 1 0) (c.has-2.ensures ∙ ap (λ w. has w x) c.block_word-2.ensures) in
    let l0 = left-parts _ _ _ (clk-parts k x n e f) c.requires.3 in
    let l1 = part-put clk_word _ l0 c.put_word-word.ensures in
    let l2 = part-put (tab_byte ∷ decimal x) _ l1 c.put_behind-number.ensures in
    let l3 = part-put (tab_byte ∷ decimal n) _ l2 c.put_behind-start.ensures in
    left-last l3 c.put_byte.ensures
