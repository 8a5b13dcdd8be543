-- `floodneedle::floodneedle_settle` meets its contract: words and state are those of the call on the state that the bytes make.
use mathlib.Core.Path.{◌≡◌, subst}
use Rattle.answer.specs.declared.State.{State}
use Rattle.run.specs.Calls.{settle_on, trace_after}
use Rattle.floodneedle.specs.Told.{SettlingTold}
use Rattle.floodneedle.proofs.Tells.{settling-told}
use Rattle.floodneedle.proofs.floodneedle_settle.Goals as goal

pub returns : goal.returns
returns c = let args = c.args in
    let made = c.state_of-given in
    let call = c.settle-r in
    let after = c.settled_places.result in
    let words = c.settled_words.result in
    let left = c.settled_places.ensures in
    record {
      settling_told =
          subst
          (λ (y : State). SettlingTold (settle_on args.table.now y args.budget args.trace.now) y after words)
          made.ensures
          (settling-told (settle_on args.table.now made.result args.budget args.trace.now) made.result call.result after words call.ensures.answer left
          c.settled_words.ensures);
      trace_after =
          subst
          (λ (y : State). call.new.trace ≡ trace_after (settle_on args.table.now y args.budget args.trace.now) args.trace.now)
          made.ensures
          call.ensures.trace;
    }
