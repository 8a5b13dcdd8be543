-- `sizing::fits`: rows, then bytes.
use borrow.Author.Tests.{le-leb, lt-leb}
use Rattle.answer.specs.Limits.{max_rows}
use Rattle.sizing.proofs.fits.Goals as goal

pub returns-else-rows-le-ROWS : goal.returns-else-rows-le-ROWS
returns-else-rows-le-ROWS c = rw (lt-leb c.args.rows max_rows c.if-rows-le-ROWS.false)

pub returns-then-rows-le-ROWS : goal.returns-then-rows-le-ROWS
returns-then-rows-le-ROWS c = rw (le-leb c.args.rows max_rows c.if-rows-le-ROWS.true)
