-- What each turn of the loop of `treelines::further_inputs` keeps.
use Rattle.treelines.proofs.InputLaws.{Further}
use Rattle.treelines.proofs.further_inputs.Given as goal

abbrev pub invariant-loop-k : goal.invariant-loop-k
invariant-loop-k l = Further l.text l.more l.initial.sum l.initial.at.at l.sum l.at.at l.k
