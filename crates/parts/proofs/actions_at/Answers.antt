-- `parts::actions_at` meets its contract: the actions of the range, joined row by row.
use mathlib.Core.Path.{refl, sym, ap, ◌∙◌}
use Prim.Native.Nat.{ℕ, ◌+◌}
use native.Mathlib.Omega.{arith}
use Rattle.laws.specs.Sets.{◌∪◌, only}
use Rattle.laws.specs.Fold.{over}
use Rattle.laws.proofs.FoldLaws.{over-next, over-end}
use Rattle.layout.specs.Layout.{action_at}
use Rattle.rows.proofs.Ready.{first-ready, next-ready, range-ready, row-ready, range-over}
use Rattle.parts.specs.Faults.{actions_in}
use borrow.Author.Rules.{rules}
use Rattle.parts.proofs.actions_at.Goals as goal

pub first_of-lo-requires : goal.first_of-lo-requires
first_of-lo-requires c = first-ready _ c.requires.0 _ c.requires.1 _ c.requires.2

pub overflow_add-s : goal.overflow_add-s
overflow_add-s c = omega (arith, (next-ready _ c.requires.0 _ c.requires.1 _ c.requires.2).2)

pub first_of-hi-requires : goal.first_of-hi-requires
first_of-hi-requires c = next-ready _ c.requires.0 _ c.requires.1 _ c.requires.2

pub loop-k-init : goal.loop-k-init
loop-k-init c = (search rules, refl)

pub action_at-requires : goal.action_at-requires
action_at-requires c = let r = range-ready _ c.requires.0 _ c.requires.1 _ c.requires.2 _ _ c.first_of-lo.ensures
    c.first_of-hi.ensures in
    (r.0, omega (arith, r.1))

pub single-requires : goal.single-requires
single-requires c = let l = c.loop-k in
    rw c.action_at.ensures (row-ready _ c.requires.0 _ c.requires.1 _ c.requires.2 _ _ c.first_of-lo.ensures
    c.first_of-hi.ensures l.k l.invariant.0 (search rules)).action

pub loop-k-preserved : goal.loop-k-preserved
loop-k-preserved c = let l = c.loop-k in
    let t = c.args.t.now in (
      search rules,
      ap (over (λ r x. x ∪ only (action_at t r)) (l.k + 1) _)
          (c.union-seen.ensures ∙ ap (λ g. l.seen ∪ g) (c.single.ensures ∙ ap only c.action_at.ensures))
          ∙ sym (over-next (λ r x. x ∪ only (action_at t r)) l.k _ l.seen (search rules)) ∙ l.invariant.1,
    )

pub returns : goal.returns
unfolding actions_in
returns c = let l = c.loop-k in
    let t = c.args.t.now in
    let f : ℕ → ℕ → ℕ = λ r x. x ∪ only (action_at t r) in
    sym (over-end f l.k _ l.seen (search rules)) ∙ l.invariant.1
    ∙ range-over t c.requires.0 _ c.requires.1 _ c.requires.2 _ _ c.first_of-lo.ensures c.first_of-hi.ensures f 0
