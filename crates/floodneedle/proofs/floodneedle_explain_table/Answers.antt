-- `floodneedle::floodneedle_explain_table` meets its contract: the words and the buffer are those of the call.
use borrow.Author.Rules.{rules}
use Rattle.explain.specs.Explain.{table_explained, length_in}
use Rattle.floodneedle.proofs.floodneedle_explain_table.Goals as goal

pub returns : goal.returns
returns c = let args = c.args in
    let call = c.explain_table-written.ensures in
    record { answer = c.written_words.ensures (length_in (table_explained args.table.now args.out.now)) call.answer; buffer = call.buffer }
