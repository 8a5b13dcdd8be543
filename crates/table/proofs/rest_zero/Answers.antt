-- `table::rest_zero`: the blocks that are left, then the rows.
use mathlib.Core.Path.{sym, ◌∙◌, ap}
use Prim.Native.Nat.{◌+◌, ◌*◌}
use native.Mathlib.Omega.{arith}
use Rattle.layout.specs.Layout.{block_words, row_words, rows_at, image_words, count_of}
use Rattle.blocks.specs.Blocks.{zero_words, end_before}
use Rattle.blocks.proofs.BlockFacts.{end-few}
use Rattle.blocks.proofs.CodeTests.{passed, failed}
use Rattle.table.specs.Rows.{rest_zero}
use Rattle.table.proofs.rest_zero.Goals as goal

pub overflow_mul-count : goal.overflow_mul-count
overflow_mul-count c = omega (arith, c.count_of-count.ensures, c.requires.count)

pub overflow_add-count : goal.overflow_add-count
overflow_add-count c = omega (arith, c.count_of-count.ensures, c.requires.count)

pub zero_words-requires : goal.zero_words-requires
zero_words-requires c = omega (arith, c.requires.long)

pub returns : goal.returns
unfolding rest_zero
returns c = let t = c.args.t.now in
    let count-of = c.count_of-count in
    let zero-words = c.zero_words in
    c.zero_words-2.ensures
    ∙ ap (λ n. zero_words t (rows_at + row_words * n) image_words) (c.end_before-end.ensures ∙ ap (end_before t) count-of.ensures)
    ∙ sym (passed zero-words.result (zero-words.ensures ∙ ap (λ n. zero_words t (1 + block_words * n) rows_at) count-of.ensures)
    c.if-not-zero_words.false)

pub returns-then-not-zero_words : goal.returns-then-not-zero_words
unfolding rest_zero
returns-then-not-zero_words c = let t = c.args.t.now in
    let zero-words = c.zero_words in
    sym (failed zero-words.result _ (zero-words.ensures ∙ ap (λ n. zero_words t (1 + block_words * n) rows_at)
    c.count_of-count.ensures) c.if-not-zero_words.true)

pub end_before-end-requires : goal.end_before-end-requires
end_before-end-requires c = (c.requires, omega (arith, c.count_of-count.ensures))

pub overflow_mul-end : goal.overflow_mul-end
overflow_mul-end c = let the-pre = c.requires in
    let t = c.args.t.now in
    omega (arith, end-few t the-pre (count_of t) (omega arith), c.end_before-end.ensures, ap (end_before t) c.count_of-count.ensures)

pub overflow_add-end : goal.overflow_add-end
overflow_add-end c = let the-pre = c.requires in
    let t = c.args.t.now in
    omega (arith, end-few t the-pre (count_of t) (omega arith), c.end_before-end.ensures, ap (end_before t) c.count_of-count.ensures)

pub zero_words-requires-2 : goal.zero_words-requires-2
zero_words-requires-2 c = omega (arith, c.requires.long)
