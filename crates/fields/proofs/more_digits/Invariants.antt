-- What each turn of the loop of `fields::more_digits` keeps.
use mathlib.Core.Path.{◌≡◌}
use Prim.Native.Nat.{◌-◌, ◌^◌, ◌≤◌, ◌<◌}
use lib.ListN.{drop}
use Rattle.model.specs.Reading.{more_digits}
use Rattle.fields.proofs.more_digits.Given as goal

-- n has k digits.
abbrev pub invariant-loop-k : goal.invariant-loop-k
invariant-loop-k l = (1 ≤ l.k) × (l.k ≤ l.most) × (l.n < 10 ^ l.k) × (more_digits (l.most - l.k) l.n (drop l.at l.text) ≡ more_digits (l.most - 1) l.first (drop l.initial.at l.text))
