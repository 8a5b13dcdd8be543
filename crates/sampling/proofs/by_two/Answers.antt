-- `sampling::by_two` meets its contract.
use native.Mathlib.Omega.{arith}
use Rattle.sampling.proofs.NumberLaws.{number-below}
use Rattle.sampling.proofs.DrawLaws.{two-draw, first-lacks, second-lacks}
use Rattle.sampling.proofs.by_two.Goals as goal

pub overflow_add-used : goal.overflow_add-used
overflow_add-used c = omega (arith, number-below _ _ _ _ c.in_ok-m.ensures)

pub overflow_add-result : goal.overflow_add-result
overflow_add-result c = omega (arith, number-below _ _ _ _ c.in_ok-n.ensures)

pub returns : goal.returns
returns c = two-draw _ _ _ c.requires.2 _ _ _ c.in_ok-m.ensures c.in_ok-n.ensures c.draw.ensures

pub returns-in_err-n : goal.returns-in_err-n
returns-in_err-n c = rw c.from_residual-in_err-n.ensures (second-lacks _ _ _ c.requires.2 c.in_err-n.ensures)

pub returns-in_err-m : goal.returns-in_err-m
returns-in_err-m c = rw c.from_residual.ensures (first-lacks _ _ _ c.requires.2 c.in_err-m.ensures)
