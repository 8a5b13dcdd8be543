-- `floodneedle::floodneedle_write` meets its contract: the words and the buffer are those of the call.
use borrow.Author.Rules.{rules}
use Rattle.text.specs.Write.{write_on}
use Rattle.floodneedle.proofs.floodneedle_write.Goals as goal

pub returns : goal.returns
returns c = let args = c.args in
    let call = c.write-written.ensures in
    record { answer = c.written_words.ensures (write_on args.table.now args.text.now) call.answer; buffer = call.buffer }
