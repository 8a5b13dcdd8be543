-- What was put stands at the front.
use Rattle.printout.proofs.Printing.{is-filled}
use Rattle.numbers.proofs.filled.Goals as goal

pub returns : goal.returns
returns c = is-filled c.put_numbers.ensures
