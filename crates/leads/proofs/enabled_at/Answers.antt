-- `leads::enabled_at` meets its contract: the actions of the range, joined row by row.
use mathlib.Core.Path.{refl, sym, ap, ap₂, ◌∙◌}
use Prim.Native.Nat.{◌+◌}
use native.Mathlib.Omega.{arith}
use Rattle.laws.specs.Sets.{◌∪◌, ◌∩◌, only}
use Rattle.laws.specs.Fold.{over}
use Rattle.laws.proofs.FoldLaws.{over-next, over-end}
use Rattle.rows.proofs.Ready.{word-ready, first-ready, next-ready, range-ready, row-ready, range-over}
use Rattle.leads.proofs.Standing.{uouts-are}
use borrow.Author.Rules.{rules}
use Rattle.leads.proofs.enabled_at.Invariants.{joins}
use Rattle.leads.proofs.enabled_at.Goals as goal

pub first_of-lo-requires : goal.first_of-lo-requires
first_of-lo-requires c = let p = c.requires in first-ready _ p.0 _ p.1 _ p.2

pub overflow_add-s : goal.overflow_add-s
overflow_add-s c = let p = c.requires in omega (arith, (next-ready _ p.0 _ p.1 _ p.2).2)

pub first_of-hi-requires : goal.first_of-hi-requires
first_of-hi-requires c = let p = c.requires in next-ready _ p.0 _ p.1 _ p.2

pub loop-r-init : goal.loop-r-init
loop-r-init c = (omega arith, refl)

pub action_at-requires : goal.action_at-requires
action_at-requires c = let p = c.requires in
    let r = range-ready _ p.0 _ p.1 _ p.2 _ _ c.first_of-lo.ensures c.first_of-hi.ensures in
    (r.0, omega (arith, r.1))

pub single-requires : goal.single-requires
single-requires c = let p = c.requires in
    let l = c.loop-r in
    let row = row-ready _ p.0 _ p.1 _ p.2 _ _ c.first_of-lo.ensures c.first_of-hi.ensures
    l.r l.invariant.0 (search rules) in
    rw c.action_at.ensures row.action

pub loop-r-preserved : goal.loop-r-preserved
loop-r-preserved c = let l = c.loop-r in
    let t = c.args.t.now in
    let e = c.union-all.ensures ∙ ap (λ x. l.all ∪ x) (c.single.ensures ∙ ap only c.action_at.ensures) in
    (omega (arith, l.invariant.0), ap (over (joins t) (l.r + 1) _) e ∙ sym (over-next (joins t) l.r _ l.all (search rules)) ∙ l.invariant.1)

pub block_word-requires : goal.block_word-requires
block_word-requires c = let p = c.requires in word-ready _ p.0 _ p.1 _ (omega arith)

pub returns : goal.returns
returns c = let l = c.loop-r in
    let t = c.args.t.now in
    ap₂ ◌∩◌ c.block_word.ensures
    (sym (over-end (joins t) l.r _ l.all (search rules)) ∙ l.invariant.1
    ∙ range-over t c.requires.0 _ c.requires.1 _ c.requires.2 _ _ c.first_of-lo.ensures
    c.first_of-hi.ensures (joins t) 0)
    ∙ sym (uouts-are t _ _ c.requires.2)
