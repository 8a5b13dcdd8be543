-- `printout::put_refusal` meets its contract: no line of a refusal is longer than the longest report.
use native.Mathlib.Omega.{arith}
use Rattle.printout.proofs.Printing.{line-room}
use Rattle.printout.proofs.put_refusal.Goals as goal

pub put_refused-requires : goal.put_refused-requires
put_refused-requires c = line-room c.args.out.now c.args.f c.requires

pub returns : goal.returns
returns c = record { put = c.put_refused.ensures; room = omega (arith, line-room c.args.out.now c.args.f c.requires) }
