-- `treerows::with_kind` meets its contract.
use Rattle.treerows.proofs.with_kind.Goals as goal

pub returns-in_default : goal.returns-in_default
returns-in_default c = rw c.in_default.is

pub returns-in-In : goal.returns-in-In
returns-in-In c = rw (c.in-Some.is, c.in-In.is, c.union.ensures, c.single-one.ensures)

pub returns-in-Out : goal.returns-in-Out
returns-in-Out c = rw (c.in-Some.is, c.in-Out.is, c.union-in-Out.ensures, c.single-one.ensures)

pub returns-in-Uin : goal.returns-in-Uin
returns-in-Uin c = rw (c.in-Some.is, c.in-Uin.is, c.union-in-Uin.ensures, c.single-one.ensures)

pub returns-in-Uout : goal.returns-in-Uout
returns-in-Uout c = rw (c.in-Some.is, c.in-Uout.is, c.union-in-Uout.ensures, c.single-one.ensures)
