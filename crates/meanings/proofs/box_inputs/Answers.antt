-- `meanings::box_inputs` meets its contract.
use Rattle.meanings.specs.Words.{box_set}
use Rattle.meanings.proofs.box_inputs.Goals as goal

pub returns-in-Be : goal.returns-in-Be
unfolding box_set
returns-in-Be c = rw (c.in-Be.is, box_set)

pub returns-in-And : goal.returns-in-And
unfolding box_set
returns-in-And c = rw (c.in-And.is, box_set)

pub returns-in-Or : goal.returns-in-Or
unfolding box_set
returns-in-Or c = rw (c.in-Or.is, box_set)

pub returns-in-Pand : goal.returns-in-Pand
unfolding box_set
returns-in-Pand c = rw (c.in-Pand.is, box_set)

pub returns-in-Rbox : goal.returns-in-Rbox
unfolding box_set
returns-in-Rbox c = rw (c.in-Rbox.is, box_set) c.inputs_set-all.ensures
