-- `roles::be_kind` meets its contract.
use Rattle.roles.proofs.be_kind.Goals as goal

pub returns-in-Fl : goal.returns-in-Fl
returns-in-Fl c = rw c.in-Fl.is

pub returns-in-Up : goal.returns-in-Up
returns-in-Up c = rw c.in-Up.is

pub returns-in-F : goal.returns-in-F
returns-in-F c = rw c.in-F.is

pub returns-in-U : goal.returns-in-U
returns-in-U c = rw c.in-U.is

pub returns-in-R : goal.returns-in-R
returns-in-R c = rw c.in-R.is
