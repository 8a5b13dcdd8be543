-- `floodneedle::floodneedle_merge` meets its contract: the words and the second table are those of the call.
use borrow.Author.Rules.{rules}
use Rattle.answer.specs.Told.{done_of}
use Rattle.merge.specs.Merging.{merge_on}
use Rattle.floodneedle.proofs.floodneedle_merge.Goals as goal

pub returns : goal.returns
returns c = let args = c.args in
    let call = c.merge-checked.ensures in
    record { answer = c.checked_words.ensures (done_of (merge_on args.table.now args.i args.into.now)) call.answer; buffer = call.table }
