-- `treesize::next_be` meets its contract.
use native.Mathlib.Omega.{arith}
use Rattle.treesize.proofs.next_be.Goals as goal

pub returns-in-Be : goal.returns-in-Be
returns-in-Be c = rw c.in-Be.is (omega arith)
