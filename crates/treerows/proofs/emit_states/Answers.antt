-- `treerows::emit_states` meets its contract: what is listed and what is left make the whole.
use mathlib.Core.Path.{◌≡◌, refl, sym, ◌∙◌, ap, subst}
use Prim.Native.Nat.{◌+◌, ◌*◌, ◌-◌, ◌<◌}
use native.Mathlib.Omega.{arith}
use Rattle.laws.specs.Fold.{spread}
use Rattle.answer.specs.Limits.{max_elements, max_actions}
use Rattle.product.specs.Walk.{out_of, listed}
use Rattle.product.proofs.WalkLaws.{walk-on, walk_end}
use Rattle.elements.specs.Parts.{element_of}
use Rattle.treerows.specs.Rows.{state_rows, element_rows, Room}
use Rattle.treerows.proofs.RowLaws.{room_after, room-less, state-few, states-low}
use Rattle.treerows.proofs.emit_states.Goals as goal

pub states_of-states-requires : goal.states_of-states-requires
states_of-states-requires c = c.requires.3

pub loop-s-init : goal.loop-s-init
unfolding element_rows
loop-s-init c = let a = c.args in
    let z : c.states_of-states.result - 0 ≡ c.states_of-states.result = omega arith in (
      refl,
      ap (λ n. listed a.limit (spread (state_rows a.words.now a.count (element_of a.e) a.k) 0 n) (out_of a.n a.into.now))
          (z ∙ c.states_of-states.ensures),
      room-less a.limit (max_elements * max_actions) (max_actions * (max_elements - 0)) _ (omega arith) c.requires.5,
    )

pub emit_state-next-requires : goal.emit_state-next-requires
emit_state-next-requires c = let l = c.loop-s in
    let p = c.requires in
    let low = states-low c.args.e p.3 in
    let h : l.s < max_elements = omega (arith, c.loop-s-test.true, c.states_of-states.ensures, low) in
    (p.0, p.1, p.2, p.3, p.4, h, room-less c.args.limit (max_actions * (max_elements - l.s)) c.args.count _ (omega (arith, p.1, h)) l.invariant.2)

pub loop-s-preserved : goal.loop-s-preserved
loop-s-preserved c = let l = c.loop-s in
    let a = c.args in
    let h = c.loop-s-test.true in
    let f = c.emit_state-next.ensures in
    let o = out_of l.m l.into in
    let low = states-low a.e c.requires.3 in
    let below : l.s < max_elements = omega (arith, h, c.states_of-states.ensures, low) in
    let left = max_actions * (max_elements - (l.s + 1)) in
    let room = room-less a.limit (max_actions * (max_elements - l.s)) (a.count + left) o (omega (arith, c.requires.1, below)) l.invariant.2 in (
      c.emit_state-next.auto.into ∙ l.invariant.0,
      walk-on a.limit (state_rows a.words.now a.count (element_of a.e) a.k) l.s c.states_of-states.result o _ _ h l.invariant.1 f,
      subst (Room a.limit left) (sym f) (room_after a.limit a.count left _ o (state-few a.words.now a.count (element_of a.e) a.k
          l.s) room),
    )

pub returns : goal.returns
returns c = let l = c.loop-s in
    let a = c.args in
    walk_end a.limit (state_rows a.words.now a.count (element_of a.e) a.k) l.s c.states_of-states.result (out_of l.m l.into) _
    c.loop-s-test.false l.invariant.1
