-- What each turn of the loop of `distributions::hex` keeps.
use Rattle.distributions.proofs.HexLaws.{Digits}
use Rattle.distributions.proofs.hex.Given as goal

abbrev pub invariant-loop-k : goal.invariant-loop-k
invariant-loop-k l = Digits l.text l.initial.at l.k l.n l.at
