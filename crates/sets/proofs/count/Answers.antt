-- `sets::count`: the ones of a word are the set's members.
use native.Mathlib.Omega.{arith}
use lib.Count.{ones-le}
use Rattle.sets.proofs.MemberLaws.{size_is}
use Rattle.sets.proofs.count.Goals as goal

pub overflow_cast-result : goal.overflow_cast-result
overflow_cast-result c = omega (arith, ones-le 64 c.args.s (omega arith))

pub returns : goal.returns
returns c = size_is c.args.s (omega arith)
