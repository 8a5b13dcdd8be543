-- `sampling::number_at` meets its contract.
use native.Mathlib.Omega.{arith}
use Rattle.sampling.proofs.NumberLaws.{far-beyond, row-beyond, word-here}
use Rattle.sampling.proofs.number_at.Goals as goal

pub returns-then-numbers-k : goal.returns-then-numbers-k
returns-then-numbers-k c = far-beyond _ _ _ c.if-numbers-k.true

pub returns-then-numbers-row : goal.returns-then-numbers-row
returns-then-numbers-row c = row-beyond _ _ _ c.if-numbers-row.true

pub returns : goal.returns
returns c = word-here _ _ _ (omega (arith, c.if-numbers-row.false))
