-- `linking::starts` meets its contract: the components, one after the other.
use mathlib.Core.Path.{refl, ap, ◌∙◌}
use Prim.Native.Nat.{◌<◌}
use native.Mathlib.Omega.{arith}
use Rattle.laws.specs.Sets.{◌∪◌}
use Rattle.laws.specs.Fold.{over}
use Rattle.layout.specs.Layout.{count_of}
use Rattle.layout.specs.Image.{comp_of}
use Rattle.layout.proofs.ImageIsSane.{image-long, comp-ranges}
use Rattle.rows.proofs.Ready.{word-ready}
use Rattle.triggering.specs.Test.{uouts_at, starts_of}
use Rattle.linking.proofs.Walking.{over-components, fold_next, fold_end}
use borrow.Author.Rules.{rules}
use Rattle.linking.proofs.starts.Invariants.{joins}
use Rattle.linking.proofs.starts.Goals as goal

pub count_of-n-requires : goal.count_of-n-requires
count_of-n-requires c = image-long _ c.requires

pub loop-i-init : goal.loop-i-init
loop-i-init c = refl

pub block_word-s-requires : goal.block_word-s-requires
block_word-s-requires c = word-ready _ c.requires _ (omega (arith, c.count_of-n.ensures)) _ (omega arith)

pub enabled_at-requires : goal.enabled_at-requires
enabled_at-requires c = let im = c.requires in
    let h : c.loop-i.i < count_of c.args.t.now = omega (arith, c.count_of-n.ensures) in
    (im, h, rw c.block_word-s.ensures (comp-ranges _ im _ h).start)

pub loop-i-preserved : goal.loop-i-preserved
unfolding comp_of
loop-i-preserved c = let l = c.loop-i in
    let t = c.args.t.now in
    fold_next (joins t) l.i _ l.all l.invariant _ (search rules)
    (c.union-all.ensures ∙ ap (λ x. l.all ∪ x) (c.enabled_at.ensures ∙ ap (uouts_at (comp_of t l.i)) c.block_word-s.ensures))

pub returns : goal.returns
unfolding starts_of
returns c = let l = c.loop-i in
    let t = c.args.t.now in
    fold_end (joins t) l.i _ l.all l.invariant (search rules) ∙ ap (λ k. over (joins t) 0 k 0) c.count_of-n.ensures
    ∙ over-components t (λ c x. x ∪ uouts_at c c.start) 0
