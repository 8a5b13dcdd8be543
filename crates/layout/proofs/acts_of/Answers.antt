-- `layout::acts_of`: the four sets joined.
use mathlib.Core.Path.{◌∙◌, ap₂}
use lib.Bits.{bit_or}
use Rattle.layout.specs.Image.{comp_of}
use Rattle.layout.proofs.acts_of.Goals as goal

pub returns : goal.returns
unfolding comp_of
returns c = let block-word = c.block_word in
    let block-word2 = c.block_word-2 in
    let the-union = c.union-inputs in
    let block-word3 = c.block_word-3 in
    let block-word4 = c.block_word-4 in
    c.union.ensures
    ∙ ap₂ bit_or (the-union.ensures ∙ ap₂ bit_or block-word.ensures block-word2.ensures) (c.union-outputs.ensures
    ∙ ap₂ bit_or block-word3.ensures block-word4.ensures)
