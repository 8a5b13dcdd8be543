-- `floodneedle::floodneedle_advance` meets its contract: words and bytes are those of the call on the state that the bytes make.
use mathlib.Core.Path.{subst}
use Rattle.answer.specs.declared.State.{State}
use Rattle.panel.specs.Advance.{AdvancedCall}
use Rattle.floodneedle.proofs.Tells.{advance-told}
use Rattle.floodneedle.proofs.floodneedle_advance.Goals as goal

pub returns : goal.returns
returns c = let args = c.args in
    let made = c.state_of-given in
    let call = c.advanced-r in
    let put = c.put_moved in
    let known = subst (λ (y : State). AdvancedCall args.table.now y call.result) made.ensures call.ensures in
    advance-told args.table.now args.state.now call.result put.new.bytes c.stepped_words.result known put.ensures c.stepped_words.ensures
