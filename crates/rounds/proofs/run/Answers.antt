-- `rounds::run` meets its contract.
use Rattle.laws.proofs.Exits.{handed-on}
use Rattle.rounds.proofs.Going.{run_on, run-refused}
use Rattle.rounds.proofs.run.Goals as goal

pub returns-in_err-state : goal.returns-in_err-state
returns-in_err-state c = rw (handed-on _ c.from_residual.ensures.1) (run-refused _ _ _ _ _ _ _ _ _ c.in_err-state.ensures)

pub later_rounds-requires : goal.later_rounds-requires
later_rounds-requires c = (c.in_ok-state.ensures.placed, c.in_ok-state.ensures.posed)

pub returns : goal.returns
returns c = run_on _ _ _ _ _ _ _ _ _ c.in_ok-state.ensures _ _ c.later_rounds.ensures
