-- `floodneedle::floodneedle_timed_step` meets its contract: words, state and clock values are those of the call on the state that the bytes make.
use mathlib.Core.Path.{subst}
use Rattle.answer.specs.declared.State.{State}
use Rattle.floodneedle.specs.Told.{timed_on, TimingTold}
use Rattle.floodneedle.proofs.Tells.{timing-told}
use Rattle.floodneedle.proofs.floodneedle_timed_step.Goals as goal

pub returns : goal.returns
returns c = let made = c.state_of-given in
    let call = c.timed_step-r in
    let args = c.args in
    let vs = call.new.clocks in
    let after = c.timed_places.result in
    let left = c.timed_places.ensures in
    subst
    (λ (y : State). TimingTold (timed_on args.table.now y args.clocks.now) y args.clocks.now vs after c.fired_words.result)
    made.ensures
    (timing-told (timed_on args.table.now made.result args.clocks.now) made.result args.clocks.now
    call.result vs after c.fired_words.result call.ensures left c.fired_words.ensures)
