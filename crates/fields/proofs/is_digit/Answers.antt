-- `fields::is_digit_lem` meets its contract.
use borrow.Author.Tests.{le-leb, lt-leb}
use Rattle.fields.proofs.is_digit.Goals as goal

pub returns-then-b-ge-ZERO : goal.returns-then-b-ge-ZERO
returns-then-b-ge-ZERO c = rw (le-leb 48 c.args.b c.if-b-ge-ZERO.true)

pub returns-else-b-ge-ZERO : goal.returns-else-b-ge-ZERO
returns-else-b-ge-ZERO c = rw (lt-leb 48 c.args.b c.if-b-ge-ZERO.false)
