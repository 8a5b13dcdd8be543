-- What each turn of the loop of `namefields::letters_or_digits` keeps.
use mathlib.Core.Path.{◌≡◌}
use Prim.Native.Nat.{◌-◌}
use lib.ListN.{length}
use Rattle.named.specs.NamedText.{letters_or_digits}
use Rattle.namefields.specs.NameFields.{name_from}
use Rattle.namefields.proofs.letters_or_digits.Given as goal

abbrev pub invariant-loop-at : goal.invariant-loop-at
invariant-loop-at l = letters_or_digits (name_from l.text l.i) ≡ letters_or_digits (name_from l.text l.at)

abbrev pub decreases-loop-at : goal.decreases-loop-at
decreases-loop-at l = length l.text - l.i
