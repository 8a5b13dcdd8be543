-- `outset::start_at` meets its contract: where there is no component its block is zero.
use mathlib.Core.Path.{◌∙◌}
use native.Mathlib.Omega.{arith}
use borrow.Author.Rules.{rules}
use Rattle.layout.proofs.ImageIsSane.{image-long}
use Rattle.outset.proofs.Called.{start_word, start_small}
use Rattle.outset.proofs.start_at.Goals as goal

pub block_word-requires : goal.block_word-requires
block_word-requires c = let pre = c.requires in (image-long _ pre.0, pre.1, search rules)

pub returns : goal.returns
returns c = c.block_word.ensures ∙ start_word c.args.t.now c.requires.0 c.args.i c.requires.1

pub overflow_cast-result : goal.overflow_cast-result
overflow_cast-result c = omega (arith, c.block_word.ensures, start_small c.args.t.now c.requires.0 c.args.i c.requires.1)
