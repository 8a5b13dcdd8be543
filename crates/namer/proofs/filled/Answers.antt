-- What the call answers, put as it is told.
use Rattle.named.specs.Converted.{to_names}
use Rattle.printout.proofs.Printing.{is-filled}
use Rattle.namer.proofs.filled.Goals as goal

pub returns : goal.returns
returns c = is-filled (c.put_converted.ensures (to_names c.args.input.now) c.args.out.now c.requires c.to_names-r.ensures)
