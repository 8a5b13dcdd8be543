-- What each turn of the loop of `ticks::any_outside` keeps.
use mathlib.Core.Path.{◌≡◌}
use Prim.Native.Nat.{◌≤◌}
use Rattle.answer.specs.Limits.{max_clocks}
use Rattle.laws.specs.Search.{seek, when, least}
use Rattle.ticks.specs.Ticks.{outside, by_value}
use Rattle.ticks.proofs.any_outside.Given as goal

abbrev pub invariant-loop-k : goal.invariant-loop-k
invariant-loop-k l = (l.k ≤ max_clocks) × (seek (λ k. when (by_value (outside l.d) l.values k) k) l.k max_clocks ≡ least (by_value (outside l.d) l.values) max_clocks)
