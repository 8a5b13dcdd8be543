-- `panel::advance` meets its contract: a refusal changes nothing, and else the state is stored where the step moved.
use Rattle.laws.proofs.Exits.{handed-on}
use Rattle.panel.proofs.Called.{refused-call}
use Rattle.panel.proofs.advance.Goals as goal

pub returns-in_err-stepped : goal.returns-in_err-stepped
returns-in_err-stepped c = rw (handed-on _ c.from_residual.ensures.1) (refused-call _ _ _ c.step.ensures _ c.in_err-stepped.was)
