-- `namesheet::line_after` meets its contract.
use borrow.Author.Tests.{eq-eqb, ne_eqb}
use Rattle.namesheet.proofs.line_after.Goals as goal

pub returns-then-place-eq0 : goal.returns-then-place-eq0
returns-then-place-eq0 c = rw (eq-eqb c.args.place 0 c.if-place-eq0.true)

pub returns-else-place-eq0 : goal.returns-else-place-eq0
returns-else-place-eq0 c = rw (ne_eqb c.args.place 0 c.if-place-eq0.false)
