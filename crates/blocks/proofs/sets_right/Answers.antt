-- `blocks::sets_right`: test by test.
use mathlib.Core.Path.{sym, ◌∙◌, ap₂}
use lib.Bits.{bit_and, bit_or}
use Rattle.laws.specs.Sets.{◌∪◌, within}
use Rattle.layout.specs.Layout.{block_word}
use Rattle.blocks.specs.Blocks.{sets_right}
use Rattle.blocks.proofs.CodeTests.{shares-none, shares-some}
use Rattle.blocks.proofs.sets_right.Goals as goal

pub returns-then-ins-outs-ne0 : goal.returns-then-ins-outs-ne0
unfolding sets_right
returns-then-ins-outs-ne0 c = let args = c.args in
    let t = args.t.now in
    let i = args.i in
    let ins = c.block_word-ins.ensures in
    let outs = c.block_word-outs.ensures in
    sym (shares-some (block_word t i 2) (block_word t i 3) _ (ap₂ bit_and ins outs) c.if-ins-outs-ne0.true)

pub returns : goal.returns
unfolding sets_right
returns c = let args = c.args in
    let t = args.t.now in
    let i = args.i in
    let ins = c.block_word-ins.ensures in
    let outs = c.block_word-outs.ensures in
    let uins = c.block_word-uins.ensures in
    let two = c.union-two.ensures ∙ ap₂ bit_or ins outs in
    let three = c.union-three.ensures ∙ ap₂ bit_or two uins in
    let uouts = c.block_word.ensures in
    c.lies_in.ensures
    ∙ ap₂ within c.block_word-2.ensures c.block_word-3.ensures
    ∙ sym (shares-none (block_word t i 2) (block_word t i 3) (ap₂ bit_and ins outs) c.if-ins-outs-ne0.false
    ∙ shares-none ((block_word t i 2) ∪ (block_word t i 3)) (block_word t i 4) (ap₂ bit_and two uins) c.if-two-uins-ne0.false
    ∙ shares-none ((block_word t i 2) ∪ (block_word t i 3) ∪ (block_word t i 4)) (block_word t i 5) (ap₂ bit_and three uouts) c.if-three-block_word-ne0.false)

pub returns-then-two-uins-ne0 : goal.returns-then-two-uins-ne0
unfolding sets_right
returns-then-two-uins-ne0 c = let args = c.args in
    let t = args.t.now in
    let i = args.i in
    let ins = c.block_word-ins.ensures in
    let outs = c.block_word-outs.ensures in
    let uins = c.block_word-uins.ensures in
    let two = c.union-two.ensures ∙ ap₂ bit_or ins outs in
    sym (shares-none (block_word t i 2) (block_word t i 3) (ap₂ bit_and ins outs) c.if-ins-outs-ne0.false
    ∙ shares-some ((block_word t i 2) ∪ (block_word t i 3)) (block_word t i 4) _ (ap₂ bit_and two uins) c.if-two-uins-ne0.true)

pub returns-then-three-block_word-ne0 : goal.returns-then-three-block_word-ne0
unfolding sets_right
returns-then-three-block_word-ne0 c = let args = c.args in
    let t = args.t.now in
    let i = args.i in
    let ins = c.block_word-ins.ensures in
    let outs = c.block_word-outs.ensures in
    let uins = c.block_word-uins.ensures in
    let two = c.union-two.ensures ∙ ap₂ bit_or ins outs in
    let three = c.union-three.ensures ∙ ap₂ bit_or two uins in
    let uouts = c.block_word.ensures in
    sym (shares-none (block_word t i 2) (block_word t i 3) (ap₂ bit_and ins outs) c.if-ins-outs-ne0.false
    ∙ shares-none ((block_word t i 2) ∪ (block_word t i 3)) (block_word t i 4) (ap₂ bit_and two uins) c.if-two-uins-ne0.false
    ∙ shares-some ((block_word t i 2) ∪ (block_word t i 3) ∪ (block_word t i 4)) (block_word t i 5) _ (ap₂ bit_and three uouts) c.if-three-block_word-ne0.true)
