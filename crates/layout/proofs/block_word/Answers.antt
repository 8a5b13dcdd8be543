-- `layout::block_word`: word k of the block of component i.
use mathlib.Core.Path.{refl}
use Rattle.layout.specs.Layout.{block_word}
use Rattle.layout.proofs.block_word.Goals as goal

pub returns : goal.returns
unfolding block_word
returns c = refl
