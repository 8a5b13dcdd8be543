-- `treerows::emit_state` meets its contract: what is listed and what is left make the whole.
use mathlib.Core.Path.{◌≡◌, refl, sym, ◌∙◌, ap, subst}
use Prim.Native.Nat.{◌+◌, ◌-◌}
use native.Mathlib.Omega.{arith}
use Rattle.laws.specs.Fold.{spread}
use Rattle.product.specs.Walk.{out_of, listed}
use Rattle.product.proofs.WalkLaws.{walk-on, walk_end}
use Rattle.elements.specs.Parts.{element_of}
use Rattle.treerows.specs.Rows.{word_rows, state_rows, Room}
use Rattle.treerows.proofs.RowLaws.{room_after, room-less, word-few}
use Rattle.treerows.proofs.emit_state.Goals as goal

pub loop-a-init : goal.loop-a-init
unfolding state_rows
loop-a-init c = let a = c.args in
    let z : a.count - 0 ≡ a.count = omega arith in (
      refl,
      ap (λ n. listed a.limit (spread (word_rows a.words.now (element_of a.e) a.k a.s) 0 n) (out_of a.n a.into.now)) z,
      room-less a.limit a.count (a.count - 0) _ (omega (arith, z)) c.requires.6,
    )

pub bounds-words-a : goal.bounds-words-a
bounds-words-a c = omega (arith, c.loop-a-test.true, c.requires.1)

pub emit_row-next-requires : goal.emit_row-next-requires
emit_row-next-requires c = let l = c.loop-a in
    let p = c.requires in
    (p.2, p.3, p.4, p.5, room-less c.args.limit (c.args.count - l.a) 1 _ (omega (arith, c.loop-a-test.true)) l.invariant.2)

pub loop-a-preserved : goal.loop-a-preserved
unfolding word_rows
loop-a-preserved c = let l = c.loop-a in
    let a = c.args in
    let h = c.loop-a-test.true in
    let f = c.emit_row-next.ensures in
    let o = out_of l.m l.into in
    let room = room-less a.limit (a.count - l.a) (1 + (a.count - (l.a + 1))) o (omega (arith, h)) l.invariant.2 in (
      c.emit_row-next.auto.into ∙ l.invariant.0,
      walk-on a.limit (word_rows a.words.now (element_of a.e) a.k a.s) l.a a.count o _ _ h l.invariant.1 f,
      subst (Room a.limit (a.count - (l.a + 1))) (sym f)
          (room_after a.limit 1 (a.count - (l.a + 1)) _ o (word-few a.words.now (element_of a.e) a.k a.s l.a) room),
    )

pub returns : goal.returns
returns c = let l = c.loop-a in
    let a = c.args in
    walk_end a.limit (word_rows a.words.now (element_of a.e) a.k a.s) l.a a.count (out_of l.m l.into) _ c.loop-a-test.false
    l.invariant.1
