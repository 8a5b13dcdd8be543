-- `enabling::enabling_all` meets its contract: the clocks of the components passed, with those that are left, are all.
use mathlib.Core.Path.{◌≡◌, refl, sym, ap, ap₂, ◌∙◌}
use Prim.Native.Nat.{◌+◌, ◌<◌}
use native.Mathlib.Omega.{arith}
use borrow.Author.Rules.{rules}
use lib.ListN.{get_or, drop}
use Rattle.laws.specs.Sets.{◌∪◌}
use Rattle.answer.specs.State.{parts_of}
use Rattle.answer.proofs.StateLaws.{parts_at}
use Rattle.model.specs.Model.{comp_at}
use Rattle.iosa.specs.Checks.{enabling_of}
use Rattle.timing.specs.Timed.{enabling_all}
use Rattle.layout.specs.Image.{model_of}
use Rattle.moves.proofs.Ready.{count-model, count-few, in_table, in-model, in_parts, comp-is, part_low}
use Rattle.enabling.proofs.Joined.{enabling-next, enabling-end}
use Rattle.enabling.proofs.enabling_all.Goals as goal

pub loop-i-init : goal.loop-i-init
loop-i-init c = (search rules, refl)

pub bounds-x-i : goal.bounds-x-i
bounds-x-i c = omega (arith, count-few _ _ c.requires)

pub enabling-requires : goal.enabling-requires
enabling-requires c = let i = c.loop-i.i in
    let h : i < c.args.x.count = omega arith in
    (c.requires.image, in_table _ _ c.requires i h, part_low _ _ c.requires i h)

pub loop-i-preserved : goal.loop-i-preserved
loop-i-preserved c = let l = c.loop-i in
    let t = c.args.t.now in
    let x = c.args.x in
    let h : l.i < x.count = omega arith in
    let one : c.enabling.result ≡ enabling_of (comp_at (model_of t) l.i) (get_or (parts_of x) l.i 0) =
    c.enabling.ensures ∙ sym (ap₂ enabling_of (comp-is t x c.requires l.i h) (parts_at x l.i h)) in (
      omega arith,
      ap (λ r. r ∪ enabling_all (drop (l.i + 1) (model_of t)) (drop (l.i + 1) (parts_of x))) (c.union-set.ensures ∙ ap (λ r. l.set ∪ r) one)
          ∙ sym (enabling-next (model_of t) l.i (in-model t x c.requires l.i h) (parts_of x) (in_parts t x c.requires l.i h) l.set)
          ∙ l.invariant.1,
    )

pub returns : goal.returns
returns c = let l = c.loop-i in
    let t = c.args.t.now in
    let x = c.args.x in
    enabling-end (model_of t) (parts_of x) l.i l.set (omega (arith, count-model t x c.requires)) ∙ l.invariant.1
