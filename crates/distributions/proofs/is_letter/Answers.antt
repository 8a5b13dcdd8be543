-- `distributions::is_letter` meets its contract.
use borrow.Author.Tests.{le-leb, lt-leb}
use Rattle.distributions.proofs.is_letter.Goals as goal

pub returns-then-b-ge-A : goal.returns-then-b-ge-A
returns-then-b-ge-A c = rw (le-leb 97 c.args.b c.if-b-ge-A.true)

pub returns-else-b-ge-A : goal.returns-else-b-ge-A
returns-else-b-ge-A c = rw (lt-leb 97 c.args.b c.if-b-ge-A.false)
