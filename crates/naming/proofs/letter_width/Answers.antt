-- `naming::letter_width` meets its contract.
use mathlib.Core.Path.{sym, ap}
use lib.ListN.{length}
use Rattle.naminglaws.specs.Naming.{letter_part}
use Rattle.naminglaws.proofs.LineLaws.{letter-there}
use Rattle.naming.proofs.letter_width.Goals as goal

pub returns-then-place-eq0 : goal.returns-then-place-eq0
returns-then-place-eq0 c = ap (λ n. length (letter_part n)) (sym c.if-place-eq0.true)

pub returns : goal.returns
returns c = ap length (sym (letter-there c.args.place c.if-place-eq0.false))
