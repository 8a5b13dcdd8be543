-- `sampling::by_one` meets its contract.
use native.Mathlib.Omega.{arith}
use Rattle.sampling.proofs.NumberLaws.{number-below}
use Rattle.sampling.proofs.DrawLaws.{one-draws, one-lacks}
use Rattle.sampling.proofs.by_one.Goals as goal

pub overflow_add-result : goal.overflow_add-result
overflow_add-result c = omega (arith, number-below _ _ _ _ c.in_ok-n.ensures)

pub returns : goal.returns
returns c = one-draws _ _ _ c.requires.2 _ _ c.in_ok-n.ensures c.draw.ensures

pub returns-in_err-n : goal.returns-in_err-n
returns-in_err-n c = rw c.from_residual.ensures (one-lacks _ _ _ c.requires.2 c.in_err-n.ensures)
