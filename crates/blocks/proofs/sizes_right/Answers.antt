-- `blocks::sizes_right`: test by test.
use mathlib.Core.Path.{sym, ◌∙◌, ap₂}
use native.Mathlib.Omega.{arith}
use lib.Dec.{ltb}
use borrow.Author.Tests.{le-leb, lt-leb}
use Rattle.answer.specs.Limits.{max_states}
use Rattle.laws.proofs.TestLaws.{both-no, both_go}
use Rattle.layout.specs.Layout.{block_word}
use Rattle.blocks.specs.Blocks.{sizes_right}
use Rattle.blocks.proofs.sizes_right.Goals as goal

pub returns-then-states-lt1 : goal.returns-then-states-lt1
unfolding sizes_right
returns-then-states-lt1 c = sym (both-no _ _ (lt-leb 1 (block_word c.args.t.now c.args.i 0) (omega arith)))

pub returns-then-states : goal.returns-then-states
unfolding sizes_right
returns-then-states c = let args = c.args in
    let i = args.i in
    let t = args.t.now in
    sym (both_go _ _ (le-leb 1 (block_word t i 0) (omega arith)) ∙ both-no _ _ (lt-leb (block_word t i 0) max_states (omega arith)))

pub returns : goal.returns
unfolding sizes_right
returns c = let args = c.args in
    let block-word = c.block_word-states in
    let i = args.i in
    let t = args.t.now in
    ap₂ ltb c.block_word.ensures block-word.ensures
    ∙ sym (both_go _ _ (le-leb 1 (block_word t i 0) (omega arith)) ∙ both_go _ _ (le-leb (block_word t i 0) max_states (omega arith)))
