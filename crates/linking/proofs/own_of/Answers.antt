-- `linking::own_of` meets its contract: the components, one after the other.
use mathlib.Core.Path.{refl, ap, ap₂, ◌∙◌}
use mathlib.Core.Bool.{cond}
use native.Mathlib.Omega.{arith}
use Rattle.laws.specs.Sets.{has, ◌∪◌}
use Rattle.laws.specs.Fold.{over}
use Rattle.layout.specs.Image.{comp_of}
use Rattle.layout.proofs.ImageIsSane.{image-long}
use Rattle.rows.proofs.Ready.{word-ready}
use Rattle.triggering.specs.Test.{own_of}
use Rattle.linking.proofs.Walking.{over-components, fold_next, fold_end}
use borrow.Author.Rules.{rules}
use Rattle.linking.proofs.own_of.Invariants.{joins}
use Rattle.linking.proofs.own_of.Goals as goal

pub count_of-n-requires : goal.count_of-n-requires
count_of-n-requires c = image-long _ c.requires.0

pub loop-i-init : goal.loop-i-init
loop-i-init c = refl

pub block_word-own-requires : goal.block_word-own-requires
block_word-own-requires c = word-ready _ c.requires.0 _ (omega (arith, c.count_of-n.ensures)) _ (omega arith)

pub has-requires : goal.has-requires
has-requires c = c.requires.1

pub loop-i-preserved : goal.loop-i-preserved
unfolding comp_of
loop-i-preserved c = let l = c.loop-i in
    let a = c.args in
    let own = c.block_word-own.ensures in
    let e = c.pick.ensures ∙ ap₂ (λ b s. cond b s 0) (c.has.ensures ∙ ap (λ s. has s a.a) own) own in
    fold_next (joins a.t.now a.a) l.i _ l.all l.invariant _ (search rules) (c.union-all.ensures ∙ ap (λ x. l.all ∪ x) e)

pub returns : goal.returns
unfolding own_of
returns c = let l = c.loop-i in
    let a = c.args in
    fold_end (joins a.t.now a.a) l.i _ l.all l.invariant (search rules) ∙ ap (λ k. over (joins a.t.now a.a) 0 k 0) c.count_of-n.ensures
    ∙ over-components a.t.now (λ c x. x ∪ cond (has c.uouts a.a) c.uouts 0) 0
