-- `blocks::firsts_right`: test by test.
use mathlib.Core.Path.{◌≡◌, sym, ◌∙◌, ap, ap₂}
use mathlib.Core.Bool.{Bool}
use mathlib.Core.List.{List}
use Prim.Native.Nat.{ℕ}
use native.Mathlib.Omega.{arith}
use borrow.Author.Tests.{eq-eqb, ne_eqb, le-leb, lt-leb}
use lib.Dec.{eqb}
use Rattle.laws.specs.Fold.{all}
use Rattle.laws.specs.Tests.{both}
use Rattle.laws.proofs.TestLaws.{both-no, both_go}
use Rattle.answer.specs.Limits.{max_rows}
use Rattle.layout.specs.Layout.{block_word, first_of}
use Rattle.blocks.specs.Blocks.{zero_words, end_before, in_order, firsts_right}
use Rattle.blocks.proofs.firsts_right.Goals as goal

module _ (t : List ℕ) (i : ℕ) where
  begins : (end : ℕ) → end ≡ end_before t i → first_of t i 0 ≡ end → {x : Bool} → both (eqb (first_of t i 0) (end_before t i)) x ≡ x
  begins end p e = both_go _ _ (eq-eqb (first_of t i 0) (end_before t i) (e ∙ p))

  ordered : (states : ℕ) → states ≡ block_word t i 0 → {x : Bool} → all (in_order t i) 0 states ≡ x → all (in_order t i) 0 (block_word t i 0) ≡ x
  ordered states p e = ap (all (in_order t i) 0) (sym p) ∙ e

  last : (states : ℕ) → states ≡ block_word t i 0 → first_of t i states ≡ first_of t i (block_word t i 0)
  last states p = ap (first_of t i) p

pub returns-then-first_of-end : goal.returns-then-first_of-end
unfolding firsts_right
returns-then-first_of-end c = let args = c.args in
    let the-pre = c.requires in
    let i = args.i in
    let t = args.t.now in
    sym (both-no _ _ (ne_eqb (first_of t i 0) (end_before t i) (λ e. c.if-first_of-end.true (c.first_of.ensures ∙ e ∙ sym the-pre.3))))

pub returns-then-not-in_order : goal.returns-then-not-in_order
unfolding firsts_right
returns-then-not-in_order c = let args = c.args in
    let the-pre = c.requires in
    let block-word = c.block_word-states in
    let first-of = c.first_of in
    let if1 = c.if-first_of-end in
    let the-in-order = c.in_order in
    let i = args.i in
    let t = args.t.now in
    sym (begins t i args.end the-pre.3 (sym first-of.ensures ∙ if1.false)
    ∙ both-no _ _ (ordered t i block-word.result block-word.ensures (sym the-in-order.ensures ∙ c.if-not-in_order.true)))

pub returns-then-first_of-gt-ROWS : goal.returns-then-first_of-gt-ROWS
unfolding firsts_right
returns-then-first_of-gt-ROWS c = let args = c.args in
    let the-pre = c.requires in
    let block-word = c.block_word-states in
    let first-of = c.first_of in
    let if1 = c.if-first_of-end in
    let the-in-order = c.in_order in
    let if2 = c.if-not-in_order in
    let i = args.i in
    let t = args.t.now in
    sym (begins t i args.end the-pre.3 (sym first-of.ensures ∙ if1.false)
    ∙ both_go _ _ (ordered t i block-word.result block-word.ensures (sym the-in-order.ensures ∙ if2.false))
    ∙ both-no _ _ (lt-leb (first_of t i (block_word t i 0)) max_rows (omega (arith, last t i block-word.result block-word.ensures))))

pub returns : goal.returns
unfolding firsts_right
returns c = let args = c.args in
    let the-pre = c.requires in
    let block-word = c.block_word-states in
    let first-of = c.first_of in
    let if1 = c.if-first_of-end in
    let the-in-order = c.in_order in
    let if2 = c.if-not-in_order in
    let i = args.i in
    let t = args.t.now in
    c.zero_words.ensures
    ∙ ap₂ (zero_words t) (omega arith) (omega arith)
    ∙ sym (begins t i args.end the-pre.3 (sym first-of.ensures ∙ if1.false)
    ∙ both_go _ _ (ordered t i block-word.result block-word.ensures (sym the-in-order.ensures ∙ if2.false))
    ∙ both_go _ _ (le-leb (first_of t i (block_word t i 0)) max_rows (omega (arith, last t i block-word.result block-word.ensures))))
