-- `timed::timed_step` meets its contract.
use mathlib.Core.Path.{sym, ap, ◌∙◌}
use Rattle.answer.specs.Told.{says_checked}
use Rattle.laws.proofs.Exits.{handed-on}
use Rattle.timed.proofs.Called.{refused-before, fine_before, goes_on}
use Rattle.timed.proofs.timed_step.Goals as goal

pub returns-in_err-accept : goal.returns-in_err-accept
returns-in_err-accept c = rw (handed-on _ c.from_residual.ensures.1) (refused-before c.args.table.now c.args.state c.args.clocks.now _
    (ap says_checked (sym c.in_err-accept.was) ∙ c.accept.ensures))

pub accepted_step-requires : goal.accepted_step-requires
accepted_step-requires c = fine_before c.args.table.now c.args.state c.args.clocks.now (ap says_checked (sym c.in_ok-accept.was) ∙ c.accept.ensures)

pub returns : goal.returns
returns c = let f = fine_before c.args.table.now c.args.state c.args.clocks.now
    (ap says_checked (sym c.in_ok-accept.was) ∙ c.accept.ensures) in
    goes_on c.args.table.now c.args.state c.args.clocks.now f.0 _ _ c.accepted_step.ensures
