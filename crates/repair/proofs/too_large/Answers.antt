-- `repair::too_large`: rows first, then bytes.
use borrow.Author.Tests.{lt-ltb, le-ltb}
use Rattle.answer.specs.Limits.{max_rows}
use Rattle.repair.proofs.too_large.Goals as goal

pub returns-then-rows-gt-ROWS : goal.returns-then-rows-gt-ROWS
returns-then-rows-gt-ROWS c = rw (lt-ltb max_rows c.args.rows c.if-rows-gt-ROWS.true)

pub returns-else-rows-gt-ROWS : goal.returns-else-rows-gt-ROWS
returns-else-rows-gt-ROWS c = rw (le-ltb max_rows c.args.rows c.if-rows-gt-ROWS.false)
