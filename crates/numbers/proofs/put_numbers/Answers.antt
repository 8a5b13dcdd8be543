-- What the call answers, put as it is told.
use Rattle.named.specs.Converted.{to_numbers}
use Rattle.numbers.proofs.Numbering.{as-converted}
use Rattle.numbers.proofs.put_numbers.Goals as goal

pub returns : goal.returns
returns c =
    rw (← as-converted c.args.input.now) at (c.put_converted.ensures (to_numbers c.args.input.now) c.args.out.now c.requires c.to_numbers-r.ensures)
