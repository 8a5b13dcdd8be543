-- What each turn of the loop of `namefields::same_name` keeps.
use mathlib.Core.Path.{◌≡◌}
use Prim.Native.Nat.{◌-◌}
use lib.ListN.{length}
use Rattle.named.specs.NamedText.{same_name}
use Rattle.namefields.specs.NameFields.{name_from}
use Rattle.namefields.proofs.same_name.Given as goal

abbrev pub invariant-loop-a : goal.invariant-loop-a
invariant-loop-a l = same_name (name_from l.text l.i) (name_from l.text l.j) ≡ same_name (name_from l.text l.a) (name_from l.text l.b)

abbrev pub decreases-loop-a : goal.decreases-loop-a
decreases-loop-a l = length l.text - l.i
