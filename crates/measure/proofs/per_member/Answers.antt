-- `measure::per_member`: two digits for a member, less one for each member of one digit.
use mathlib.Core.Path.{refl}
use lib.Bits.{bit_and}
use native.Mathlib.Omega.{arith}
use Rattle.sets.specs.Members.{size_of}
use Rattle.measure.proofs.Fields.{low, counted-most, counted}
use Rattle.measure.proofs.per_member.Goals as goal

pub overflow_mul-result : goal.overflow_mul-result
overflow_mul-result c = omega (
  arith,
  counted-most c.args.s c.args.beside c.count.result (size_of (bit_and c.args.s low)) c.count.ensures
      refl (omega arith),
)

pub overflow_sub-result : goal.overflow_sub-result
overflow_sub-result c = omega (
  arith,
  counted c.args.s c.args.beside c.count.result c.count-2.result c.count.ensures c.count-2.ensures,
)

pub returns : goal.returns
returns c = omega (
  arith,
  counted c.args.s c.args.beside c.count.result c.count-2.result c.count.ensures c.count-2.ensures,
)
