-- What each turn of the loop of `table::range_climbs` keeps.
use mathlib.Core.Path.{◌≡◌}
use Prim.Native.Nat.{ℕ, ◌-◌, ◌<◌}
use Rattle.laws.specs.Fold.{all}
use Rattle.table.specs.Rows.{climbs}
use Rattle.table.proofs.range_climbs.Given as goal

abbrev pub invariant-loop-next : goal.invariant-loop-next
invariant-loop-next l = (l.lo < l.next) × ((s : ℕ) → all (climbs l.t s) (l.next - 1) (l.hi - 1) ≡ all (climbs l.t s) l.lo (l.hi - 1))
