-- `blocks::blocks_right`: test by test.
use mathlib.Core.Path.{sym, ◌∙◌, ap}
use native.Mathlib.Omega.{arith}
use borrow.Author.Tests.{le-leb, lt-leb}
use Rattle.laws.specs.Fold.{all}
use Rattle.laws.proofs.TestLaws.{both-no, both_go}
use Rattle.answer.specs.Limits.{max_components}
use Rattle.layout.specs.Layout.{count_of}
use Rattle.blocks.specs.Blocks.{head_right, firsts_right, blocks_right}
use Rattle.blocks.proofs.BlockFacts.{heads-states}
use Rattle.blocks.proofs.CodeTests.{passed, failed}
use Rattle.blocks.proofs.blocks_right.Goals as goal

pub returns-then-count-lt1 : goal.returns-then-count-lt1
unfolding blocks_right
returns-then-count-lt1 c = sym (both-no _ _ (lt-leb 1 (count_of c.args.t.now) (omega arith)))

pub returns-then-count-gt-COMPONENTS : goal.returns-then-count-gt-COMPONENTS
unfolding blocks_right
returns-then-count-gt-COMPONENTS c = let args = c.args in
    let t = args.t.now in
    sym (both_go _ _ (le-leb 1 (count_of t) (omega arith)) ∙ both-no _ _ (lt-leb (count_of t) max_components (omega arith)))

pub returns-then-not-heads_right : goal.returns-then-not-heads_right
unfolding blocks_right
returns-then-not-heads_right c = let args = c.args in
    let count-of = c.count_of-count in
    let heads-right = c.heads_right in
    let t = args.t.now in
    sym (both_go _ _ (le-leb 1 (count_of t) (omega arith))
    ∙ both_go _ _ (le-leb (count_of t) max_components (omega arith))
    ∙ failed heads-right.result _ (heads-right.ensures ∙ ap (all (head_right t) 0) count-of.ensures) c.if-not-heads_right.true)

pub all_firsts_right-requires : goal.all_firsts_right-requires
all_firsts_right-requires c = let the-pre = c.requires in
    let args = c.args in
    let count-of = c.count_of-count in
    let heads-right = c.heads_right in
    (the-pre, omega arith, heads-states args.t.now count-of.result (sym heads-right.ensures ∙ c.if-not-heads_right.false))

pub returns : goal.returns
unfolding blocks_right
returns c = let args = c.args in
    let count-of = c.count_of-count in
    let heads-right = c.heads_right in
    let t = args.t.now in
    c.all_firsts_right.ensures
    ∙ ap (all (firsts_right t) 0) count-of.ensures
    ∙ sym (both_go _ _ (le-leb 1 (count_of t) (omega arith))
    ∙ both_go _ _ (le-leb (count_of t) max_components (omega arith))
    ∙ passed heads-right.result (heads-right.ensures ∙ ap (all (head_right t) 0) count-of.ensures) c.if-not-heads_right.false)
