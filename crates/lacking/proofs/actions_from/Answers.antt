-- `lacking::actions_from`: the actions of the range, joined row by row.
use mathlib.Core.Path.{refl, sym, ap, ◌∙◌}
use Prim.Native.Nat.{◌+◌}
use native.Mathlib.Omega.{arith}
use Rattle.laws.specs.Sets.{◌∪◌, only}
use Rattle.laws.specs.Fold.{over}
use Rattle.laws.proofs.FoldLaws.{over-next, over-end}
use Rattle.layout.specs.Layout.{action_at}
use Rattle.lacking.specs.Walk.{actions_from}
use borrow.Author.Rules.{rules}
use Rattle.lacking.proofs.actions_from.Goals as goal

pub loop-k-init : goal.loop-k-init
unfolding actions_from
loop-k-init c = (omega arith, refl)

pub action_at-requires : goal.action_at-requires
action_at-requires c = (c.requires.0, omega (arith, c.requires.1, c.loop-k-test.true))

pub single-requires : goal.single-requires
single-requires c = let l = c.loop-k in
    rw c.action_at.ensures (c.requires.2 l.k l.invariant.0 c.loop-k-test.true)

pub loop-k-preserved : goal.loop-k-preserved
loop-k-preserved c = let l = c.loop-k in
    let t = c.args.t.now in (
      omega (arith, l.invariant.0),
      ap (over (λ r x. x ∪ only (action_at t r)) (l.k + 1) _) (c.union-seen.ensures
          ∙ ap (λ g. l.seen ∪ g) (c.single.ensures ∙ ap only c.action_at.ensures))
          ∙ sym (over-next (λ r x. x ∪ only (action_at t r)) l.k _ l.seen (search rules)) ∙ l.invariant.1,
    )

pub returns : goal.returns
returns c = let l = c.loop-k in
    let t = c.args.t.now in
    sym (over-end (λ r x. x ∪ only (action_at t r)) l.k _ l.seen (search rules)) ∙ l.invariant.1
