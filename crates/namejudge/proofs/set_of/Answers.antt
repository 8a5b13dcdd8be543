-- `namejudge::set_of` meets its contract.
use mathlib.Core.Path.{ap}
use native.Mathlib.Omega.{arith}
use Rattle.namefields.specs.NameFields.{found_is}
use Rattle.namejudge.proofs.set_of.Goals as goal

pub single-requires : goal.single-requires
single-requires c = omega (arith, c.requires c.in-Some.a (ap found_is c.in-Some.is))
