-- `floodneedle::floodneedle_settle_list` meets its contract: words and state are those of the call on the state that the bytes make.
use mathlib.Core.Path.{subst}
use Rattle.answer.specs.declared.State.{State}
use Rattle.run.specs.Calls.{settle_list_on}
use Rattle.floodneedle.specs.Told.{SettlingTold}
use Rattle.floodneedle.proofs.Tells.{settling-told}
use Rattle.floodneedle.proofs.floodneedle_settle_list.Goals as goal

pub returns : goal.returns
returns c = let args = c.args in
    let made = c.state_of-given in
    let call = c.settle_list-r in
    let after = c.settled_places.result in
    let words = c.settled_words.result in
    let left = c.settled_places.ensures in
    subst
    (λ (y : State). SettlingTold (settle_list_on args.table.now y args.list.now) y after words)
    made.ensures
    (settling-told (settle_list_on args.table.now made.result args.list.now) made.result call.result after words
    call.ensures.answer left c.settled_words.ensures)
