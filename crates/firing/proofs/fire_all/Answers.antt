-- `firing::fire_all` meets its contract: what is done of the components passed, before what is left, is what all do.
use mathlib.Core.Path.{◌≡◌, refl, sym, ap, ap₂, ◌∙◌}
use mathlib.Core.List.{◌++◌}
use Prim.Native.Nat.{◌+◌, ◌≤◌, ◌<◌}
use native.Mathlib.Omega.{arith}
use borrow.Author.Rules.{rules}
use lib.ListN.{length, get_or, take, drop, set, length-set}
use lib.Bits.{or_zero_r}
use Rattle.answer.specs.State.{parts_of, with_parts}
use Rattle.answer.proofs.StateLaws.{parts_at}
use Rattle.laws.specs.Sets.{◌∪◌}
use Rattle.layout.specs.Image.{model_of, comp_of}
use Rattle.model.specs.Model.{comp_at}
use Rattle.moves.specs.Moves.{reset_by, after_by}
use Rattle.firing.specs.Fired.{fired_one}
use Rattle.moves.proofs.Ready.{count-model, count-few, in_table, in-model, in_parts, comp-is, part_low}
use Rattle.moves.proofs.Along.{reset-next, after_next, rest-next, reset-end, after-end, whole}
use Rattle.firing.proofs.fire_all.Goals as goal

pub loop-i-init : goal.loop-i-init
loop-i-init c = (search rules, refl, search rules, refl, refl, refl)

pub bounds-x-i : goal.bounds-x-i
bounds-x-i c = omega (arith, count-few _ _ c.requires.0)

pub fire_one-m-requires : goal.fire_one-m-requires
fire_one-m-requires c = let i = c.loop-i.i in
    let h : i < c.args.x.count = omega arith in
    (c.requires.0.image, in_table _ _ c.requires.0 i h, part_low _ _ c.requires.0 i h, c.requires.1)

pub bounds-next-i : goal.bounds-next-i
bounds-next-i c = omega (arith, count-few _ _ c.requires.0)

pub loop-i-preserved : goal.loop-i-preserved
loop-i-preserved c = let l = c.loop-i in
    let t = c.args.t.now in
    let x = c.args.x in
    let f = fired_one c.args.c c.args.a in
    let m = c.fire_one-m in
    let h : l.i < x.count = omega arith in
    let p = in-model t x c.requires.0 l.i h in
    let q = in_parts t x c.requires.0 l.i h in
    let room : l.i < length l.next.parts = omega (arith, l.invariant.2, count-few t x c.requires.0) in
    let one : f (comp_at (model_of t) l.i) (get_or (parts_of x) l.i 0) ≡ f (comp_of t l.i) (get_or x.parts l.i 0) =
    ap₂ f (comp-is t x c.requires.0 l.i h) (parts_at x l.i h) in (
      omega arith,
      l.invariant.1,
      simp length-set l.invariant.2,
      ap (λ v. take (l.i + 1) (set l.next.parts l.i v) ++ after_by f (drop (l.i + 1) (model_of t)) (drop (l.i + 1) (parts_of x))) (m.ensures.target ∙ sym (ap (λ g. g.after) one))
          ∙ sym (after_next (model_of t) (parts_of x) l.i p q f l.next.parts room)
          ∙ l.invariant.3,
      rest-next l.next.parts x.parts l.i m.result.target l.invariant.4,
      ap (λ r. r ∪ reset_by f (drop (l.i + 1) (model_of t)) (drop (l.i + 1) (parts_of x))) (c.union-resets.ensures ∙ ap (λ r. l.resets ∪ r) (m.ensures.resets ∙ sym (ap (λ g. g.resets) one)))
          ∙ sym (reset-next (model_of t) (parts_of x) l.i p q f l.resets)
          ∙ l.invariant.5,
    )

pub returns : goal.returns
unfolding with_parts
returns c = let l = c.loop-i in
    let t = c.args.t.now in
    let x = c.args.x in
    let f = fired_one c.args.c c.args.a in
    let n : l.i ≡ x.count = omega (arith, l.invariant.0) in
    let past : length (model_of t) ≤ l.i = omega (arith, count-model t x c.requires.0) in
    let parts : l.next.parts ≡ after_by f (model_of t) (parts_of x) ++ drop x.count x.parts =
    whole l.next.parts x.parts (after_by f (model_of t) (parts_of x)) x.count
    (rw n at (ap (λ r. take l.i l.next.parts ++ r) (sym (after-end f (model_of t) (parts_of x) l.i past)) ∙ l.invariant.3))
    (rw n at l.invariant.4) in (
      sym (or_zero_r l.resets) ∙ ap (λ r. l.resets ∪ r) (sym (reset-end f (model_of t) (parts_of x) l.i past)) ∙ l.invariant.5,
      λ j. record { count = l.invariant.1 j; parts = parts j },
    )
