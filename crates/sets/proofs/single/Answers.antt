-- `sets::single`: one bit, at x.
use native.Mathlib.Omega.{arith}
use lib.Pow.{pow-lt}
use Rattle.sets.proofs.single.Goals as goal

pub returns : goal.returns
returns c = omega (arith, pow-lt {j = 64} c.requires)
