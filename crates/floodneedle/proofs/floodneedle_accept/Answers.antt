-- `floodneedle::floodneedle_accept` meets its contract: the words are those of what the call says.
use borrow.Author.Rules.{rules}
use Rattle.floodneedle.specs.Told.{accept_on}
use Rattle.floodneedle.proofs.floodneedle_accept.Goals as goal

pub returns : goal.returns
returns c = c.checked_words.ensures (accept_on c.args.table.now) c.accept-checked.ensures
