-- `floodneedle::floodneedle_step_by` meets its contract: words and state are those of the call on the state that the bytes make.
use mathlib.Core.Path.{subst}
use Rattle.answer.specs.declared.State.{State}
use Rattle.run.specs.Calls.{step_by_on}
use Rattle.floodneedle.specs.Told.{StepTold}
use Rattle.floodneedle.proofs.Tells.{step-told}
use Rattle.floodneedle.proofs.floodneedle_step_by.Goals as goal

pub returns : goal.returns
returns c = let args = c.args in
    let made = c.state_of-given in
    let call = c.step_by-r in
    let after = c.stepped_places.result in
    let words = c.stepped_words.result in
    let left = c.stepped_places.ensures in
    subst
    (λ (y : State). StepTold (step_by_on args.table.now y args.action) y after words)
    made.ensures
    (step-told (step_by_on args.table.now made.result args.action) made.result call.result after words call.ensures.answer left c.stepped_words.ensures)
