-- `floodneedle::floodneedle_compatible` meets its contract: the words are those of what the call says.
use borrow.Author.Rules.{rules}
use Rattle.floodneedle.specs.Told.{compatible_on}
use Rattle.floodneedle.proofs.floodneedle_compatible.Goals as goal

pub returns : goal.returns
returns c = c.checked_words.ensures (compatible_on c.args.table.now) c.compatible-checked.ensures
