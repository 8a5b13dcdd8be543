-- `floodneedle::floodneedle_read_tree` meets its contract: the words and the table are those of the call.
use borrow.Author.Rules.{rules}
use Rattle.answer.specs.Told.{done_of}
use Rattle.plant.specs.ReadTreeCall.{read_tree_on}
use Rattle.floodneedle.proofs.floodneedle_read_tree.Goals as goal

pub returns : goal.returns
returns c = let args = c.args in
    let call = c.read_tree-checked.ensures in
    record { answer = c.checked_words.ensures (done_of (read_tree_on args.text.now args.table.now)) call.answer; buffer = call.table }
