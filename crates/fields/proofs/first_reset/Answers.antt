-- `fields::first_reset` meets its contract.
use borrow.Author.Tests.{lt-ltb, le-ltb}
use Rattle.answer.specs.Limits.{max_clocks}
use Rattle.fields.proofs.first_reset.Goals as goal

pub returns-then-n : goal.returns-then-n
returns-then-n c = rw (lt-ltb c.args.n max_clocks c.if-n.true, c.single.ensures)

pub returns-else-n : goal.returns-else-n
returns-else-n c = rw (le-ltb c.args.n max_clocks c.if-n.false)
