-- What each turn of the loop of `roles::earlier` keeps.
use mathlib.Core.Path.{◌≡◌}
use Prim.Native.Nat.{◌-◌}
use Rattle.laws.specs.Sets.{has}
use Rattle.laws.specs.Search.{seek, when, is_some, any}
use Rattle.roles.proofs.earlier.Given as goal

abbrev pub invariant-loop-j : goal.invariant-loop-j
invariant-loop-j l = is_some (seek (λ k. when (has l.s (l.n - k)) k) l.j l.i) ≡ any (λ k. has l.s (l.n - k)) l.i

abbrev pub decreases-loop-j : goal.decreases-loop-j
decreases-loop-j l = l.i - l.j
