-- `namefields::is_letter_or_digit` meets its contract.
use mathlib.Core.Path.{sym, ◌∙◌}
use borrow.Author.Tests.{le-leb, lt-leb}
use Rattle.namefields.proofs.is_letter_or_digit.Goals as goal

pub returns-then-is_letter : goal.returns-then-is_letter
returns-then-is_letter c = rw (sym c.is_letter.ensures ∙ c.if-is_letter.true) c.if-is_letter.true

pub returns-then-b-ge48 : goal.returns-then-b-ge48
returns-then-b-ge48 c = rw (sym c.is_letter.ensures ∙ c.if-is_letter.false, le-leb 48 c.args.b c.if-b-ge48.true)

pub returns-else-b-ge48 : goal.returns-else-b-ge48
returns-else-b-ge48 c = rw (sym c.is_letter.ensures ∙ c.if-is_letter.false, lt-leb 48 c.args.b c.if-b-ge48.false)
