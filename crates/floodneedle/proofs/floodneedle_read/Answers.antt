-- `floodneedle::floodneedle_read` meets its contract: the words and the table are those of the call.
use borrow.Author.Rules.{rules}
use Rattle.answer.specs.Told.{done_of}
use Rattle.reading.specs.Read.{read_on}
use Rattle.floodneedle.proofs.floodneedle_read.Goals as goal

pub returns : goal.returns
returns c = let args = c.args in
    let call = c.read-checked.ensures in
    record { answer = c.checked_words.ensures (done_of (read_on args.text.now args.table.now)) call.answer; buffer = call.table }
