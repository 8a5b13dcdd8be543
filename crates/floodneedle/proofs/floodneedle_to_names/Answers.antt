-- `floodneedle::floodneedle_to_names` meets its contract: the words and the buffer are those of the call.
use borrow.Author.Rules.{rules}
use Rattle.names.specs.Names.{names_on}
use Rattle.floodneedle.proofs.floodneedle_to_names.Goals as goal

pub returns : goal.returns
returns c = let args = c.args in
    let call = c.to_names-written.ensures in
    record { answer = c.written_words.ensures (names_on args.text.now args.new.now) call.answer; buffer = call.buffer }
