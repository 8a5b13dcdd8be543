-- `table::recognise`: part by part; that the words fit is known of every slice of them.
use mathlib.Core.Path.{◌≡◌, sym, ◌∙◌, ap}
use mathlib.Core.Bool.{Bool, true, false}
use lib.Dec.{leb}
use Rattle.answer.specs.Limits.{max_bytes}
use Rattle.table.proofs.ImageTests.{bounded, sane, too_short_lem, blocks-wrong, rows-wrong, rest-wrong, by_length}
use Rattle.table.proofs.recognise.Goals as goal

-- an answer w that stands for the test a
holds : (w : Bool) {a : Bool} → w ≡ a → w ≡ true → a ≡ true
holds w e f = sym e ∙ f

fails : (w : Bool) {a : Bool} → w ≡ a → w ≡ false → a ≡ false
fails w e f = sym e ∙ f

pub returns-then-table-lt-WORDS : goal.returns-then-table-lt-WORDS
returns-then-table-lt-WORDS c = too_short_lem c.args.table.now c.if-table-lt-WORDS.true

pub returns-then-not-blocks_right : goal.returns-then-not-blocks_right
returns-then-not-blocks_right c = blocks-wrong c.args.table.now c.if-table-lt-WORDS.false (λ k h. (c.type_inv.table k).fits)
    (fails c.blocks_right.result c.blocks_right.ensures c.if-not-blocks_right.true)

pub rows_right-requires : goal.rows_right-requires
rows_right-requires c = bounded c.args.table.now c.if-table-lt-WORDS.false (holds c.blocks_right.result c.blocks_right.ensures c.if-not-blocks_right.false)

pub returns-then-not-rows_right : goal.returns-then-not-rows_right
returns-then-not-rows_right c = rows-wrong c.args.table.now c.if-table-lt-WORDS.false (λ k h. (c.type_inv.table k).fits) (holds c.blocks_right.result c.blocks_right.ensures c.if-not-blocks_right.false) (fails c.rows_right.result c.rows_right.ensures c.if-not-rows_right.true)

pub rest_zero-requires : goal.rest_zero-requires
rest_zero-requires c = bounded c.args.table.now c.if-table-lt-WORDS.false (holds c.blocks_right.result c.blocks_right.ensures c.if-not-blocks_right.false)

pub returns-then-not-rest_zero : goal.returns-then-not-rest_zero
returns-then-not-rest_zero c = rest-wrong c.args.table.now c.if-table-lt-WORDS.false (λ k h. (c.type_inv.table k).fits) (holds c.blocks_right.result c.blocks_right.ensures c.if-not-blocks_right.false) (holds c.rows_right.result c.rows_right.ensures c.if-not-rows_right.false) (fails c.rest_zero.result c.rest_zero.ensures c.if-not-rest_zero.true)

pub text_length-requires : goal.text_length-requires
text_length-requires c = sane c.args.table.now c.if-table-lt-WORDS.false (holds c.blocks_right.result c.blocks_right.ensures c.if-not-blocks_right.false) (holds c.rest_zero.result c.rest_zero.ensures c.if-not-rest_zero.false)

pub returns : goal.returns
returns c = ap (λ n. leb n max_bytes) c.text_length.ensures ∙ by_length c.args.table.now c.if-table-lt-WORDS.false (λ k h. (c.type_inv.table k).fits) (holds c.blocks_right.result c.blocks_right.ensures c.if-not-blocks_right.false) (holds c.rows_right.result c.rows_right.ensures c.if-not-rows_right.false) (holds c.rest_zero.result c.rest_zero.ensures c.if-not-rest_zero.false)
