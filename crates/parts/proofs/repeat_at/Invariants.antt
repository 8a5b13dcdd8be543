-- What each turn of the loop of `parts::repeat_at` keeps.
use mathlib.Core.Path.{◌≡◌}
use Prim.Native.Nat.{ℕ, ◌-◌, ◌≤◌}
use mathlib.Core.List.{List, [], ◌∷◌}
use mathlib.Core.Option.{Option}
use Rattle.laws.specs.Search.{seek, when}
use Rattle.answer.specs.Told.{Told, tell}
use Rattle.iosa.specs.Checks.{repeats}
use Rattle.layout.specs.Layout.{first_of}
use Rattle.layout.specs.Image.{comp_of}
use Rattle.parts.proofs.Repeating.{guards_in}
use Rattle.parts.proofs.repeat_at.Given as goal

abbrev pub at : List ℕ → ℕ → ℕ → Option Told
at t i r = when (repeats (comp_of t i) (r - first_of t i 0)) (tell 11 (r ∷ []))

abbrev pub invariant-loop-r : goal.invariant-loop-r
invariant-loop-r l = (l.lo ≤ l.r) × (l.seen ≡ guards_in l.t l.lo l.r) × (seek (at l.t l.i) l.r l.hi ≡ seek (at l.t l.i) l.lo l.hi)

abbrev pub decreases-loop-r : goal.decreases-loop-r
decreases-loop-r l = l.hi - l.r
