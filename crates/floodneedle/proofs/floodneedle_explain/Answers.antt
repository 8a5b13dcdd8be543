-- `floodneedle::floodneedle_explain` meets its contract: the words and the buffer are those of the call.
use borrow.Author.Rules.{rules}
use Rattle.explain.specs.Explain.{text_explained, length_in}
use Rattle.floodneedle.proofs.floodneedle_explain.Goals as goal

pub returns : goal.returns
returns c = let args = c.args in
    let call = c.explain-written.ensures in
    record { answer = c.written_words.ensures (length_in (text_explained args.text.now args.out.now)) call.answer; buffer = call.buffer }
