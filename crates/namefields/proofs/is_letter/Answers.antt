-- `namefields::is_letter` meets its contract.
use borrow.Author.Tests.{le-leb, lt-leb}
use Rattle.namefields.proofs.is_letter.Goals as goal

pub returns-then-b-ge97 : goal.returns-then-b-ge97
returns-then-b-ge97 c = rw (le-leb 97 c.args.b c.if-b-ge97.true)

pub returns-else-b-ge97 : goal.returns-else-b-ge97
returns-else-b-ge97 c = rw (lt-leb 97 c.args.b c.if-b-ge97.false)
