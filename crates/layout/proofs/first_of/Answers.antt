-- `layout::first_of`: the word of the block that has the first row of state s.
use mathlib.Core.Path.{refl}
use Rattle.layout.specs.Layout.{first_of, block_word}
use Rattle.layout.proofs.first_of.Goals as goal

pub returns : goal.returns
unfolding first_of block_word
returns c = refl
