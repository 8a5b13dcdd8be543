-- `parts::unclocked` meets its contract.
use mathlib.Core.Path.{ap₂, ◌∙◌}
use native.Mathlib.Omega.{arith}
use Rattle.laws.specs.Sets.{◌∪◌}
use Rattle.layout.specs.Image.{comp_of}
use Rattle.rows.proofs.Ready.{word-ready}
use Rattle.parts.proofs.unclocked.Goals as goal

pub block_word-ins-requires : goal.block_word-ins-requires
block_word-ins-requires c = word-ready _ c.requires.0 _ c.requires.1 _ (omega arith)

pub block_word-uins-requires : goal.block_word-uins-requires
block_word-uins-requires c = word-ready _ c.requires.0 _ c.requires.1 _ (omega arith)

pub block_word-uouts-requires : goal.block_word-uouts-requires
block_word-uouts-requires c = word-ready _ c.requires.0 _ c.requires.1 _ (omega arith)

pub returns : goal.returns
unfolding comp_of
returns c = c.union-3.ensures ∙ ap₂ ◌∪◌ (c.union.ensures ∙ ap₂ ◌∪◌ c.block_word-ins.ensures c.block_word-uins.ensures)
    (c.union-2.ensures ∙ ap₂ ◌∪◌ c.block_word-uins.ensures c.block_word-uouts.ensures)
