-- `floodneedle::floodneedle_check_text` meets its contract: the words are those of what the check says.
use borrow.Author.Rules.{rules}
use Rattle.answer.specs.Told.{done_of}
use Rattle.model.specs.Reading.{read_of}
use Rattle.floodneedle.proofs.floodneedle_check_text.Goals as goal

pub returns : goal.returns
returns c = c.checked_words.ensures (done_of (read_of c.args.text.now)) c.check_text-checked.ensures
