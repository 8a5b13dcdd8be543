-- `floodneedle::floodneedle_orderly` meets its contract: the words are those of what the call says.
use borrow.Author.Rules.{rules}
use Rattle.floodneedle.specs.Told.{orderly_on}
use Rattle.floodneedle.proofs.floodneedle_orderly.Goals as goal

pub returns : goal.returns
returns c = c.checked_words.ensures (orderly_on c.args.table.now) c.orderly-checked.ensures
