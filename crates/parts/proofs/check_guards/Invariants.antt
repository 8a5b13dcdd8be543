-- What each turn of the loop of `parts::check_guards` keeps.
use mathlib.Core.Path.{◌≡◌}
use Prim.Native.Nat.{ℕ, ◌-◌, ◌≤◌}
use mathlib.Core.List.{List, [], ◌∷◌}
use mathlib.Core.Option.{Option}
use Rattle.laws.specs.Search.{seek, when}
use Rattle.answer.specs.Told.{Told, tell}
use Rattle.parts.proofs.Guarding.{guard_fault}
use Rattle.parts.proofs.check_guards.Given as goal

abbrev pub at : List ℕ → ℕ → ℕ → ℕ → Option Told
at t calm outs r = when (guard_fault t calm outs r) (tell 10 (r ∷ []))

abbrev pub invariant-loop-k : goal.invariant-loop-k
invariant-loop-k l = (l.lo ≤ l.k) × (seek (at l.t l.calm l.outs) l.k l.hi ≡ seek (at l.t l.calm l.outs) l.lo l.hi)

abbrev pub decreases-loop-k : goal.decreases-loop-k
decreases-loop-k l = l.hi - l.k
