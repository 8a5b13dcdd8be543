-- What each turn of the loop of `treelines::all_inputs` keeps.
use Rattle.treelines.specs.Elements.{no_inputs}
use Rattle.treelines.proofs.InputLaws.{Needed}
use Rattle.treelines.proofs.all_inputs.Given as goal

abbrev pub invariant-loop-k : goal.invariant-loop-k
invariant-loop-k l = Needed l.text l.least l.more no_inputs l.initial.at.at l.sum l.at.at l.k
