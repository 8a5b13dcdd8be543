-- `treetests::is_cyclic` meets its contract.
use mathlib.Core.Path.{◌∙◌}
use Rattle.treenames.specs.Names.{tree_in}
use Rattle.treetests.proofs.CycleLaws.{cyclic-same}
use Rattle.treetests.proofs.PassLaws.{ascends, ranges}
use Rattle.treetests.proofs.is_cyclic.Goals as goal

pub close_sets-requires : goal.close_sets-requires
close_sets-requires c = c.input_rows-rows.ensures.places

pub has_own-requires : goal.has_own-requires
has_own-requires c = c.close_sets.ensures.places

pub returns : goal.returns
returns c = let text = c.args.text.now in
    c.has_own.ensures ∙ cyclic-same (tree_in text) (ascends text c.requires) (ranges text c.requires) _ c.input_rows-rows.ensures _ c.close_sets.ensures
