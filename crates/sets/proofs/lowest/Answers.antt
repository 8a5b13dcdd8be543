-- `sets::lowest`: as many zeros stand below the lowest one as its number says, 64 where there is none.
use native.Mathlib.Omega.{arith}
use lib.Count.{trailing_le}
use Rattle.sets.proofs.MemberLaws.{lowest-is}
use Rattle.sets.proofs.lowest.Goals as goal

pub returns : goal.returns
returns c = lowest-is c.args.s

pub overflow_cast-result : goal.overflow_cast-result
overflow_cast-result c = omega (arith, trailing_le 64 c.args.s)
