-- `floodneedle::floodneedle_confluent` meets its contract: the words are those of what the call says.
use borrow.Author.Rules.{rules}
use Rattle.floodneedle.specs.Told.{confluent_on}
use Rattle.floodneedle.proofs.floodneedle_confluent.Goals as goal

pub returns : goal.returns
returns c = c.checked_words.ensures (confluent_on c.args.table.now) c.confluent-checked.ensures
