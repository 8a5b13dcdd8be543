-- `floodneedle::floodneedle_to_numbers` meets its contract: the words and the buffer are those of the call.
use borrow.Author.Rules.{rules}
use Rattle.names.specs.Names.{numbers_on}
use Rattle.floodneedle.proofs.floodneedle_to_numbers.Goals as goal

pub returns : goal.returns
returns c = let args = c.args in
    let call = c.to_numbers-written.ensures in
    record { answer = c.written_words.ensures (numbers_on args.text.now args.old.now) call.answer; buffer = call.buffer }
