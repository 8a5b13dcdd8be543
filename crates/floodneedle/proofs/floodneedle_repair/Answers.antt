-- `floodneedle::floodneedle_repair` meets its contract: the words, the table and the list are those of the call.
use borrow.Author.Rules.{rules}
use Rattle.repair.specs.Repairing.{repair_on, number_in}
use Rattle.floodneedle.proofs.floodneedle_repair.Goals as goal

pub returns : goal.returns
returns c = let call = c.repair-written in
    let args = c.args in
    record {
      answer = c.written_words.ensures (number_in (repair_on args.table.now args.list.now)) call.ensures.answer;
      table = call.ensures.table;
      list = call.ensures.list;
    }
