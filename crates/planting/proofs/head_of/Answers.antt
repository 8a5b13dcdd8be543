-- `planting::head_of` meets its contract.
use Rattle.elements.specs.Parts.{element_of}
use Rattle.planting.proofs.PlantLaws.{head-by}
use Rattle.planting.proofs.head_of.Goals as goal

pub returns : goal.returns
returns c = let a = c.args in
    head-by a.words.now a.count (element_of a.e) a.k c.kinds_of-h.result _ _ _ c.kinds_of-h.ensures c.states_of-states.ensures
    c.clocks_of-clocks.ensures c.started_of-started.ensures
