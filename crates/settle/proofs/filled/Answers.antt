-- The buffer is as long as the longest report, so nothing is refused.
use Rattle.settle.proofs.Filling.{is-filled, never-refused}
use Rattle.settle.proofs.filled.Goals as goal

pub returns-in-Ok : goal.returns-in-Ok
returns-in-Ok c = is-filled c.requires c.report.ensures _ c.in-Ok.is

pub returns-in-Err : goal.returns-in-Err
returns-in-Err c = absurd (never-refused c.requires c.report.ensures _ c.in-Err.is)
