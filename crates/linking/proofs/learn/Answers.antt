-- `linking::learn` meets its contract: the components, one after the other.
use mathlib.Core.Path.{refl, sym, ap, ◌∙◌}
use Prim.Native.Nat.{◌+◌}
use native.Mathlib.Omega.{arith}
use lib.ListN.{length}
use Rattle.laws.specs.Fold.{over}
use Rattle.laws.proofs.FoldLaws.{over-next, over-end}
use Rattle.layout.specs.Image.{comp_of}
use Rattle.layout.proofs.ImageIsSane.{image-long}
use Rattle.leads.specs.Learning.{learn_in, learn_of}
use Rattle.linking.proofs.Walking.{comp-length, over-components}
use borrow.Author.Rules.{rules}
use Rattle.linking.proofs.learn.Goals as goal

pub count_of-n-requires : goal.count_of-n-requires
count_of-n-requires c = image-long _ c.requires.0

pub loop-i-init : goal.loop-i-init
loop-i-init c = (c.requires.1, refl)

pub learn_component-requires : goal.learn_component-requires
learn_component-requires c = (c.requires.0, omega (arith, c.count_of-n.ensures), c.loop-i.invariant.0)

pub loop-i-preserved : goal.loop-i-preserved
loop-i-preserved c = let l = c.loop-i in
    let a = c.args in
    let e = c.learn_component.ensures in (
      ap length e ∙ comp-length a.kind (comp_of a.t.now l.i) l.table l.invariant.0,
      ap (over (λ i. learn_in a.kind (comp_of a.t.now i)) (l.i + 1) _) e
          ∙ sym (over-next (λ i. learn_in a.kind (comp_of a.t.now i)) l.i _ l.table (search rules)) ∙ l.invariant.1,
    )

pub returns : goal.returns
unfolding learn_of
returns c = let l = c.loop-i in
    let a = c.args in
    sym (over-end (λ i. learn_in a.kind (comp_of a.t.now i)) l.i _ l.table (search rules)) ∙ l.invariant.1
    ∙ ap (λ n. over (λ i. learn_in a.kind (comp_of a.t.now i)) 0 n a.table.now) c.count_of-n.ensures
    ∙ over-components a.t.now (learn_in a.kind) a.table.now
