-- `parts::repeat_at` meets its contract: the guards passed are one set, and what is left to search is the whole search.
use mathlib.Core.Path.{◌≡◌, refl, sym, ap, ap₂, ◌∙◌}
use native.Mathlib.Omega.{arith}
use native.Mathlib.Numerals.{add-one}
use mathlib.Core.List.{[], ◌∷◌}
use mathlib.Core.Option.{some}
use Rattle.laws.specs.Sets.{◌∪◌, ◌∩◌}
use Rattle.laws.specs.Search.{when}
use Rattle.laws.proofs.SearchLaws.{seek-here, seek-next, seek-end}
use Rattle.answer.specs.Told.{tell, told}
use Rattle.model.specs.Model.{guard_set}
use Rattle.layout.specs.Layout.{first_of, guard_at}
use Rattle.rows.proofs.Ready.{first-ready, next-ready, range-ready, row-ready, range-seek}
use Rattle.parts.specs.Faults.{repeat_fault}
use Rattle.parts.proofs.Saying.{says-fine, says-refused}
use Rattle.parts.proofs.Repeating.{guards_in, guards_none, guards-next, repeats-shared, unshared}
use borrow.Author.Rules.{rules}
use Rattle.parts.proofs.repeat_at.Invariants.{at}
use Rattle.parts.proofs.repeat_at.Goals as goal

pub first_of-lo-requires : goal.first_of-lo-requires
first_of-lo-requires c = first-ready _ c.requires.0 _ c.requires.1 _ c.requires.2

pub overflow_add-s : goal.overflow_add-s
overflow_add-s c = omega (arith, (next-ready _ c.requires.0 _ c.requires.1 _ c.requires.2).2)

pub first_of-hi-requires : goal.first_of-hi-requires
first_of-hi-requires c = next-ready _ c.requires.0 _ c.requires.1 _ c.requires.2

pub loop-r-init : goal.loop-r-init
loop-r-init c = (search rules, sym (guards_none _ _), refl)

pub guard_at-requires : goal.guard_at-requires
guard_at-requires c = let r = range-ready _ c.requires.0 _ c.requires.1 _ c.requires.2 _ _ c.first_of-lo.ensures
    c.first_of-hi.ensures in
    (r.0, omega (arith, r.1))

pub guard_set-g-requires : goal.guard_set-g-requires
guard_set-g-requires c = let l = c.loop-r in
    rw c.guard_at.ensures (row-ready _ c.requires.0 _ c.requires.1 _ c.requires.2 _ _ c.first_of-lo.ensures
    c.first_of-hi.ensures l.r l.invariant.0 (search rules)).guard

pub returns-then-seen-g-ne0 : goal.returns-then-seen-g-ne0
unfolding repeat_fault told
returns-then-seen-g-ne0 c = let l = c.loop-r in
    let t = c.args.t.now in
    let lo = c.first_of-lo in
    let hi = c.first_of-hi in
    let g = c.guard_set-g.ensures ∙ ap guard_set c.guard_at.ensures in
    let ne : guards_in t (first_of t c.args.i c.args.s) l.r ∩ guard_set (guard_at t l.r) ≡ 0 → ⊥ = λ z. c.if-seen-g-ne0.true
    (ap₂ ◌∩◌ (l.invariant.1 ∙ ap (λ n. guards_in t n l.r) lo.ensures) g ∙ z) in
    let hit : at t c.args.i l.r ≡ some (tell 11 (l.r ∷ [])) = ap (λ b. when b (tell 11 (l.r ∷ [])))
    (repeats-shared t c.requires.0 _ c.requires.1 _ l.r c.requires.2 (omega (arith, lo.ensures, l.invariant.0))
    (omega (arith, hi.ensures, ap (first_of t c.args.i) (add-one c.args.s))) ne) in
    says-refused _ (tell 11 (l.r ∷ [])) _ refl
    (sym (range-seek t c.requires.0 _ c.requires.1 _ c.requires.2 _ _ lo.ensures hi.ensures (at t c.args.i)) ∙ sym l.invariant.2
    ∙ seek-here (at t c.args.i) l.r _ (search rules) hit)

pub loop-r-preserved : goal.loop-r-preserved
loop-r-preserved c = let l = c.loop-r in
    let t = c.args.t.now in
    let lo = c.first_of-lo in
    let hi = c.first_of-hi in
    let g = c.guard_set-g.ensures ∙ ap guard_set c.guard_at.ensures in
    let z : guards_in t (first_of t c.args.i c.args.s) l.r ∩ guard_set (guard_at t l.r) ≡ 0 = sym
    (ap₂ ◌∩◌ (l.invariant.1 ∙ ap (λ n. guards_in t n l.r) lo.ensures) g) ∙ c.if-seen-g-ne0.false in
    let miss = ap (λ b. when b (tell 11 (l.r ∷ []))) (unshared t c.requires.0 _ c.requires.1 _ l.r c.requires.2
    (omega (arith, lo.ensures, l.invariant.0)) (omega (arith, hi.ensures, ap (first_of t c.args.i) (add-one c.args.s))) z) in (
      search rules,
      c.union-seen.ensures ∙ ap₂ ◌∪◌ l.invariant.1 g ∙ sym (guards-next t _ l.r l.invariant.0),
      sym (seek-next (at t c.args.i) l.r _ (search rules) miss) ∙ l.invariant.2,
    )

pub returns : goal.returns
unfolding repeat_fault
returns c = let l = c.loop-r in
    let t = c.args.t.now in
    says-fine _ (sym (range-seek t c.requires.0 _ c.requires.1 _ c.requires.2 _ _ c.first_of-lo.ensures
    c.first_of-hi.ensures (at t c.args.i)) ∙ sym l.invariant.2 ∙ seek-end (at t c.args.i) l.r _ (search rules))
