-- `active::narrow_state` meets its contract: what is left of the range narrows the sets so far.
use mathlib.Core.Path.{◌≡◌, refl, sym, ◌∙◌}
use mathlib.Core.Bool.{Bool, not, ◌||◌}
use mathlib.Core.List.{List}
use Prim.Native.Nat.{ℕ}
use native.Mathlib.Omega.{arith}
use lib.ListN.{get_or, set}
use lib.Dec.{eqb}
use Rattle.laws.specs.Sets.{◌∪◌, ◌∩◌, ◌∖◌}
use Rattle.laws.proofs.FoldLaws.{over-next, over-end}
use Rattle.model.specs.Model.{guard_set}
use Rattle.iosa.specs.Checks.{breaks, narrowed}
use Rattle.layout.specs.Layout.{guard_at, target_at, resets_at}
use Rattle.layout.specs.Image.{row_in}
use Rattle.layout.proofs.ImageIsSane.{comp-ranges}
use Rattle.rows.proofs.Ready.{first-ready, next-ready, range-ready, row-ready, range-over}
use Rattle.active.specs.Narrowing.{narrow_state, Fell}
use Rattle.active.proofs.Passes.{narrowed-fell, fell-on}
use borrow.Author.Rules.{rules}
use Rattle.active.proofs.narrow_state.Goals as goal
use Rattle.active.proofs.narrow_state.Goals.{After-minus-kept, In-loop-k}

-- the sets B, which came from A, after row k
one-row : (t A B : List ℕ) (s k to u : ℕ) (r : Bool) → Fell r A B → to ≡ target_at t k → u ≡ get_or B s 0 ∖ guard_set (guard_at t k) ∪ resets_at t k
    → let C = set B to (get_or B to 0 ∩ u) in (C ≡ narrowed B (row_in t s k)) × Fell (not (eqb (get_or B to 0 ∩ u) (get_or B to 0)) || r) A C
one-row t A B s k to u r p e f = rw (e, f) (refl, fell-on A B (narrowed B (row_in t s k)) r (breaks B (row_in t s k)) p (narrowed-fell B (row_in t s k)))

pub first_of-lo-requires : goal.first_of-lo-requires
first_of-lo-requires c = first-ready _ c.requires.0 _ c.requires.1 _ c.requires.2

pub first_of-hi-requires : goal.first_of-hi-requires
first_of-hi-requires c = next-ready _ c.requires.0 _ c.requires.1 _ c.requires.2

pub overflow_add-s : goal.overflow_add-s
overflow_add-s c = omega (arith, (next-ready _ c.requires.0 _ c.requires.1 _ c.requires.2).2)

pub loop-k-init : goal.loop-k-init
loop-k-init c = (search rules, refl, refl)

pub target_at-to-requires : goal.target_at-to-requires
target_at-to-requires c = let r = range-ready _ c.requires.0 _ c.requires.1 _ c.requires.2 _ _ c.first_of-lo.ensures
    c.first_of-hi.ensures in
    (r.0, omega (arith, r.1))

pub bounds-act-s : goal.bounds-act-s
bounds-act-s c = omega (arith, (next-ready _ c.requires.0 _ c.requires.1 _ c.requires.2).2)

pub offset_bounds-act-s : goal.offset_bounds-act-s
offset_bounds-act-s c = omega (arith, (next-ready _ c.requires.0 _ c.requires.1 _ c.requires.2).2)

pub guard_at-requires : goal.guard_at-requires
guard_at-requires c = target_at-to-requires (goal.at.guard_at-requires c).In-loop-k

pub guard_set-requires : goal.guard_set-requires
guard_set-requires c = let l = c.loop-k in
    let r = row-ready _ c.requires.0 _ c.requires.1 _ c.requires.2 _ _ c.first_of-lo.ensures c.first_of-hi.ensures l.k
    l.invariant.0 (search rules) in
    rw c.guard_at.ensures r.guard

pub bounds-act-to : goal.bounds-act-to
bounds-act-to c = let l = c.loop-k in
    let r = row-ready _ c.requires.0 _ c.requires.1 _ c.requires.2 _ _ c.first_of-lo.ensures c.first_of-hi.ensures l.k
    l.invariant.0 (search rules) in
    omega (arith, c.target_at-to.ensures, r.target, (comp-ranges _ c.requires.0 _ c.requires.1).states)

pub offset_bounds-act-to : goal.offset_bounds-act-to
offset_bounds-act-to c = omega (arith, bounds-act-to c)

pub resets_at-requires : goal.resets_at-requires
resets_at-requires c = target_at-to-requires (goal.at.resets_at-requires c).In-loop-k

pub bounds-act-to-in-loop-k : goal.bounds-act-to-in-loop-k
bounds-act-to-in-loop-k c = bounds-act-to (goal.at.bounds-act-to-in-loop-k c).After-minus-kept

pub offset_bounds-act-to-in-loop-k : goal.offset_bounds-act-to-in-loop-k
offset_bounds-act-to-in-loop-k c = offset_bounds-act-to (goal.at.offset_bounds-act-to-in-loop-k c).After-minus-kept

pub loop-k-preserved : goal.loop-k-preserved
loop-k-preserved c = let l = c.loop-k in
    let t = c.args.t.now in
    let s = c.args.s in
    let to = c.target_at-to in
    let hands : c.union.result ≡ get_or l.act s 0 ∖ guard_set (guard_at t l.k) ∪ resets_at t l.k = cc in
    let n = one-row t _ l.act s l.k to.result c.union.result l.less l.invariant.2 to.ensures hands in (
      search rules,
      rw n.0 (sym (over-next (λ r B. narrowed B (row_in t s r)) l.k _ l.act (search rules)) ∙ l.invariant.1),
      n.1,
    )

pub returns : goal.returns
unfolding narrow_state
returns c = let l = c.loop-k in
    let t = c.args.t.now in (
      sym (over-end _ l.k _ l.act (search rules)) ∙ l.invariant.1
          ∙ range-over t c.requires.0 _ c.requires.1 _ c.requires.2 _ _ c.first_of-lo.ensures
          c.first_of-hi.ensures _ _,
      l.invariant.2,
    )
