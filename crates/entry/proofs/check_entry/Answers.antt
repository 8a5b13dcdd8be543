-- `entry::check_entry` meets its contract: what the checks refuse of the model, or else 21, or else 19.
use Rattle.answer.specs.State.{parts_of}
use Rattle.iosa.specs.Checks.{confluent_of}
use Rattle.iosa.specs.Settle.{begin_fault}
use Rattle.layout.specs.Image.{model_of}
use Rattle.parts.proofs.Saying.{exit-first, fine-next}
use Rattle.entry.proofs.check_entry.Goals as goal

pub returns-in_err-check_confluent : goal.returns-in_err-check_confluent
returns-in_err-check_confluent c = let s0 = c.args in
    let m = model_of s0.t.now in
    exit-first _ _ c.from_residual.ensures.1 (confluent_of m) (begin_fault m (parts_of s0.x)) c.in_err-check_confluent.ensures

pub returns : goal.returns
returns c = let s0 = c.args in
    let m = model_of s0.t.now in
    fine-next _ _ (confluent_of m) (begin_fault m (parts_of s0.x)) c.check_confluent.ensures c.in_ok-check_confluent.was c.check_state.ensures
