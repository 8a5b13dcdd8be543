-- `treetests::gather` meets its contract.
use Rattle.treetests.specs.Gathering.{gathered}
use Rattle.treetests.proofs.gather.Goals as goal

pub returns : goal.returns
unfolding gathered
returns c = cc
