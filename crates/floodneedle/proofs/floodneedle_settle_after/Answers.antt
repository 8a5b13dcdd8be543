-- `floodneedle::floodneedle_settle_after` meets its contract: words, state and trace are those of the call.
use Rattle.after.specs.Calls.{settle_after_on}
use Rattle.floodneedle.proofs.Tells.{after-told}
use Rattle.floodneedle.proofs.floodneedle_settle_after.Goals as goal

pub returns : goal.returns
returns c = let args = c.args in
    let call = c.settle_after-r in
    let left = c.settled_places.ensures in
    record {
      after_told = after-told
          (settle_after_on args.table.now args.path.now args.budget args.trace.now) call.result c.settled_places.result c.settled_words.result
          call.ensures.answer left c.settled_words.ensures;
      trace_after = call.ensures.trace;
    }
