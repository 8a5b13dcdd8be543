-- `leads::urgent_of` meets its contract.
use mathlib.Core.Path.{ap₂, ◌∙◌}
use native.Mathlib.Omega.{arith}
use Rattle.laws.specs.Sets.{◌∪◌}
use Rattle.layout.specs.Image.{comp_of}
use Rattle.rows.proofs.Ready.{word-ready}
use Rattle.leads.proofs.urgent_of.Goals as goal

pub block_word-requires : goal.block_word-requires
block_word-requires c = let p = c.requires in word-ready _ p.0 _ p.1 _ (omega arith)

pub block_word-requires-2 : goal.block_word-requires-2
block_word-requires-2 c = let p = c.requires in word-ready _ p.0 _ p.1 _ (omega arith)

pub returns : goal.returns
unfolding comp_of
returns c = c.union.ensures ∙ ap₂ ◌∪◌ c.block_word.ensures c.block_word-2.ensures
