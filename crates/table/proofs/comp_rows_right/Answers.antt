-- `table::comp_rows_right`: each row, then their order.
use mathlib.Core.Path.{◌≡◌, sym, ◌∙◌}
use mathlib.Core.List.{List}
use Prim.Native.Nat.{ℕ}
use native.Mathlib.Omega.{arith}
use Rattle.laws.specs.Fold.{all}
use Rattle.laws.proofs.TestLaws.{both-no, both_go}
use Rattle.model.specs.Model.{acts}
use Rattle.layout.specs.Layout.{block_word, first_of}
use Rattle.layout.specs.Image.{comp_of}
use Rattle.table.specs.Rows.{row_right, comp_rows_right}
use Rattle.table.proofs.comp_rows_right.Goals as goal

rows_are : (t : List ℕ) (i a x n lo hi : ℕ) → a ≡ acts (comp_of t i) → x ≡ block_word t i 6 → n ≡ block_word t i 0 → lo ≡ first_of t i 0 → hi ≡ first_of t i n
    → all (row_right t a x n) lo hi ≡ all (row_right t (acts (comp_of t i)) (block_word t i 6) (block_word t i 0)) (first_of t i 0) (first_of t i (block_word t i 0))
rows_are t i a x n lo hi p q r u v = rw (p, q, u, v, r)

pub block_word-states-requires : goal.block_word-states-requires
block_word-states-requires c = let the-pre = c.requires in (the-pre.0.long, omega (arith, the-pre.1, the-pre.0.count), omega arith)

pub block_word-clocks-requires : goal.block_word-clocks-requires
block_word-clocks-requires c = let the-pre = c.requires in (the-pre.0.long, omega (arith, the-pre.1, the-pre.0.count), omega arith)

pub acts_of-acts-requires : goal.acts_of-acts-requires
acts_of-acts-requires c = let the-pre = c.requires in (the-pre.0.long, omega (arith, the-pre.1, the-pre.0.count))

pub first_of-lo-requires : goal.first_of-lo-requires
first_of-lo-requires c = let the-pre = c.requires in (the-pre.0.long, omega (arith, the-pre.1, the-pre.0.count), omega arith)

pub first_of-hi-requires : goal.first_of-hi-requires
first_of-hi-requires c = let the-pre = c.requires in
    let args = c.args in
    (the-pre.0.long, omega (arith, the-pre.1, the-pre.0.count), omega (arith, the-pre.0.states args.i the-pre.1))

pub range_right-requires : goal.range_right-requires
range_right-requires c = let the-pre = c.requires in
    let args = c.args in
    let block-word = c.block_word-states in
    let i = args.i in
    (the-pre.0.long, omega (arith, the-pre.0.firsts i block-word.result the-pre.1 (omega (arith, the-pre.0.states i the-pre.1))))

pub returns-then-range_right : goal.returns-then-range_right
unfolding comp_rows_right
returns-then-range_right c = let args = c.args in
    let block-word = c.block_word-states in
    let block-word2 = c.block_word-clocks in
    let acts-of = c.acts_of-acts in
    let first-of = c.first_of-lo in
    let first-of2 = c.first_of-hi in
    let range-right = c.range_right in
    c.states_climb.ensures
    ∙ sym (both_go _ _ (sym (rows_are args.t.now args.i acts-of.result block-word2.result block-word.result first-of.result
    first-of2.result acts-of.ensures block-word2.ensures block-word.ensures first-of.ensures first-of2.ensures)
    ∙ sym range-right.ensures ∙ c.if-range_right.true))

pub returns-else-range_right : goal.returns-else-range_right
unfolding comp_rows_right
returns-else-range_right c = let args = c.args in
    let block-word = c.block_word-states in
    let block-word2 = c.block_word-clocks in
    let acts-of = c.acts_of-acts in
    let first-of = c.first_of-lo in
    let first-of2 = c.first_of-hi in
    sym (both-no _ _ (sym (rows_are args.t.now args.i acts-of.result block-word2.result block-word.result first-of.result
    first-of2.result acts-of.ensures block-word2.ensures block-word.ensures first-of.ensures first-of2.ensures)
    ∙ sym c.range_right.ensures ∙ c.if-range_right.false))
