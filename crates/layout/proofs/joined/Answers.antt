-- `layout::joined` meets its contract: the words of the blocks passed, with those that are left, are all.
use mathlib.Core.Path.{sym, ap, ◌∙◌}
use Prim.Native.Nat.{◌+◌, ◌-◌}
use native.Mathlib.Omega.{arith}
use borrow.Author.Rules.{rules}
use Rattle.laws.specs.Sets.{◌∪◌}
use Rattle.laws.specs.Fold.{over}
use Rattle.laws.proofs.FoldLaws.{over-next, over-end}
use Rattle.layout.specs.Layout.{block_word, joined_word}
use Rattle.layout.proofs.joined.Invariants.{join}
use Rattle.layout.proofs.joined.Goals as goal

pub loop-i-init : goal.loop-i-init
unfolding joined_word
loop-i-init c = (search rules, ap (λ n. over (join c.args.t.now c.args.k) 0 n 0) c.count_of-n.ensures)

pub block_word-requires : goal.block_word-requires
block_word-requires c = let pre = c.requires in (pre.0, omega (arith, pre.1, c.count_of-n.ensures), pre.2)

pub loop-i-preserved : goal.loop-i-preserved
loop-i-preserved c = let l = c.loop-i in
    let n = c.count_of-n.result in
    let f = join c.args.t.now c.args.k in (
      omega arith,
      ap (over f (l.i + 1) n) (c.union-set.ensures ∙ ap (λ w. l.set ∪ w) c.block_word.ensures)
          ∙ sym (over-next f l.i n l.set (search rules)) ∙ l.invariant.1,
    )

pub returns : goal.returns
returns c = let l = c.loop-i in
    sym (over-end (join c.args.t.now c.args.k) l.i c.count_of-n.result l.set (search rules)) ∙ l.invariant.1
