-- `pairs::clash_set` meets its contract: the sets of the components passed, and what those clash by.
use mathlib.Core.Path.{◌≡◌, sym, ap, ap₂, ◌∙◌}
use native.Mathlib.Omega.{arith}
use Rattle.laws.specs.Sets.{◌∪◌, ◌∩◌}
use Rattle.laws.specs.Fold.{over}
use Rattle.laws.proofs.FoldLaws.{over-end}
use Rattle.laws.proofs.UnionLaws.{over_last}
use Rattle.layout.specs.Layout.{count_of}
use Rattle.layout.specs.Image.{comp_of}
use Rattle.layout.proofs.ImageIsSane.{image-long}
use Rattle.pairs.specs.Clashes.{left_of, right_of, left_below, right_below, clash_at, clash_set}
use borrow.Author.Rules.{rules}
use Rattle.pairs.proofs.clash_set.Goals as goal

pub count_of-n-requires : goal.count_of-n-requires
count_of-n-requires c = image-long _ c.requires

pub loop-i-init : goal.loop-i-init
unfolding left_below right_below
loop-i-init c = (search rules, sym (over-end _ 0 0 0 (omega arith)), sym (over-end _ 0 0 0 (omega arith)), sym (over-end _ 0 0 0 (omega arith)))

pub sides_of-s-requires : goal.sides_of-s-requires
sides_of-s-requires c = (c.requires, omega (arith, c.count_of-n.ensures))

pub loop-i-preserved : goal.loop-i-preserved
unfolding left_below right_below clash_at
loop-i-preserved c = let l = c.loop-i in
    let t = c.args.t.now in
    let k = c.args.kind in
    let s = c.sides_of-s in (
      search rules,
      ap₂ ◌∪◌ l.invariant.1 s.ensures.0 ∙ sym (over_last (λ i s. s ∪ left_of k (comp_of t i)) 0 l.i 0 (omega arith)),
      ap₂ ◌∪◌ l.invariant.2 s.ensures.1 ∙ sym (over_last (λ i s. s ∪ right_of k (comp_of t i)) 0 l.i 0 (omega arith)),
      ap₂ ◌∪◌ l.invariant.3 (ap₂ ◌∪◌ (ap₂ ◌∩◌ l.invariant.1 s.ensures.1) (ap₂ ◌∩◌ l.invariant.2 s.ensures.0))
          ∙ sym (over_last (λ j s. s ∪ clash_at k t j) 0 l.i 0 (omega arith)),
    )

pub returns : goal.returns
unfolding clash_set
returns c = let l = c.loop-i in
    let e : l.i ≡ count_of c.args.t.now = omega (arith, l.invariant.0, c.count_of-n.ensures) in
    l.invariant.3 ∙ ap (λ n. over (λ j s. s ∪ clash_at c.args.kind c.args.t.now j) 0 n 0) e
