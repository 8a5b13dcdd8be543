-- `print::put_byte` meets its contract: one store.
use mathlib.Core.Path.{refl}
use Rattle.print.proofs.LaidLaws.{stored}
use Rattle.print.proofs.put_byte.Goals as goal

pub returns : goal.returns
returns c = stored c.args.out.now c.args.at c.args.b _ c.requires refl
