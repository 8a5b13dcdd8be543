-- `roles::gate_kind` meets its contract.
use Rattle.roles.proofs.gate_kind.Goals as goal

pub returns-in-OwnF : goal.returns-in-OwnF
returns-in-OwnF c = rw (c.in_ok-r.was, c.in-OwnF.is)

pub returns-in-OwnU : goal.returns-in-OwnU
returns-in-OwnU c = rw (c.in_ok-r.was, c.in-OwnU.is)

pub returns-in-F0 : goal.returns-in-F0
returns-in-F0 c = rw (c.in_ok-r.was, c.in-F0.is)

pub returns-in-U0 : goal.returns-in-U0
returns-in-U0 c = rw (c.in_ok-r.was, c.in-U0.is)

pub returns-in-F1 : goal.returns-in-F1
returns-in-F1 c = rw (c.in_ok-r.was, c.in-F1.is)

pub returns-in-U1 : goal.returns-in-U1
returns-in-U1 c = rw (c.in_ok-r.was, c.in-U1.is)

pub returns-in-Tick : goal.returns-in-Tick
returns-in-Tick c = rw (c.in_ok-r.was, c.in-Tick.is)

pub returns-in_err-r : goal.returns-in_err-r
returns-in_err-r c = rw (c.from_residual.ensures, c.in_err-r.was)
