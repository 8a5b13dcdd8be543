-- `treetests::take_in` meets its contract.
use Rattle.treetests.specs.Gathering.{taken_in}
use Rattle.treetests.proofs.take_in.Goals as goal

pub returns : goal.returns
unfolding taken_in
returns c = cc
