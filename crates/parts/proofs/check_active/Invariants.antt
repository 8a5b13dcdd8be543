-- What each turn of the loop of `parts::check_active` keeps.
use mathlib.Core.Path.{◌≡◌}
use mathlib.Core.List.{List}
use mathlib.Core.Bool.{Bool, not}
use Prim.Native.Nat.{ℕ, ◌-◌}
use lib.ListN.{get_or}
use Rattle.laws.specs.Sets.{within}
use Rattle.laws.specs.Search.{seek, when}
use Rattle.iosa.specs.Checks.{enabling_of}
use Rattle.layout.specs.Image.{comp_of}
use Rattle.parts.proofs.check_active.Given as goal

-- whether what guards the rows of s lies outside the sets A
abbrev pub outside : List ℕ → ℕ → List ℕ → ℕ → Bool
outside t i A s = not (within (enabling_of (comp_of t i) s) (get_or A s 0))

abbrev pub invariant-loop-s : goal.invariant-loop-s
invariant-loop-s l = seek (λ s. when (outside l.t l.i l.greatest s) s) l.s l.states ≡ seek (λ s. when (outside l.t l.i l.greatest s) s) 0 l.states

abbrev pub decreases-loop-s : goal.decreases-loop-s
decreases-loop-s l = l.states - l.s
