-- `linking::learn_state` meets its contract: the rows of the range, one after the other.
use mathlib.Core.Path.{◌≡◌, refl, sym, ap, ◌∙◌}
use Prim.Native.Nat.{suc, ◌+◌}
use native.Mathlib.Omega.{arith}
use native.Mathlib.Numerals.{add-one}
use lib.ListN.{length}
use Rattle.laws.specs.Fold.{over}
use Rattle.laws.proofs.FoldLaws.{over-next, over-end}
use Rattle.layout.specs.Layout.{first_of}
use Rattle.rows.proofs.Ready.{first-ready, next-ready, range-over}
use Rattle.leads.specs.Learning.{learn_state}
use Rattle.leads.proofs.Standing.{crossed-length}
use borrow.Author.Rules.{rules}
use Rattle.linking.proofs.learn_state.Invariants.{rows}
use Rattle.linking.proofs.learn_state.Goals as goal

pub first_of-lo-requires : goal.first_of-lo-requires
first_of-lo-requires c = let p = c.requires.0 in first-ready _ p.image _ p.inside _ p.below

pub overflow_add-at : goal.overflow_add-at
overflow_add-at c = let p = c.requires.0 in omega (arith, (next-ready _ p.image _ p.inside _ p.below).2)

pub first_of-hi-requires : goal.first_of-hi-requires
first_of-hi-requires c = let p = c.requires.0 in next-ready _ p.image _ p.inside _ p.below

pub loop-r-init : goal.loop-r-init
loop-r-init c = (omega arith, c.requires.1, refl)

pub learn_row-requires : goal.learn_row-requires
learn_row-requires c = let l = c.loop-r in
    let x = c.args.at in
    let t = c.args.t.now in
    let e : c.first_of-hi.result ≡ first_of t x.component (suc x.state) = c.first_of-hi.ensures ∙ ap (first_of t x.component) (add-one x.state) in (
      record {
        state = c.requires.0;
        from = omega (arith, l.invariant.0, c.first_of-lo.ensures);
        to = omega (arith, e);
      },
      l.invariant.1,
    )

pub loop-r-preserved : goal.loop-r-preserved
loop-r-preserved c = let l = c.loop-r in
    let a = c.args in
    let f = rows a.t.now a.at a.kind in (
      omega (arith, l.invariant.0),
      ap length c.learn_row.ensures ∙ crossed-length _ _ _,
      ap (over f (l.r + 1) _) c.learn_row.ensures ∙ sym (over-next f l.r _ l.table (search rules)) ∙ l.invariant.2,
    )

pub returns : goal.returns
unfolding learn_state
returns c = let l = c.loop-r in
    let p = c.requires.0 in
    let f = rows c.args.t.now c.args.at c.args.kind in
    sym (over-end f l.r _ l.table (search rules)) ∙ l.invariant.2
    ∙ range-over c.args.t.now p.image _ p.inside _ p.below _ _
    c.first_of-lo.ensures c.first_of-hi.ensures f _
