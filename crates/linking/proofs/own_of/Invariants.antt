-- What each turn of the loop of `linking::own_of` keeps.
use mathlib.Core.Path.{◌≡◌}
use mathlib.Core.Bool.{cond}
use mathlib.Core.List.{List}
use Prim.Native.Nat.{ℕ, ◌-◌}
use Rattle.laws.specs.Sets.{has, ◌∪◌}
use Rattle.laws.specs.Fold.{over}
use Rattle.layout.specs.Image.{comp_of}
use Rattle.linking.proofs.own_of.Given as goal

abbrev pub joins : List ℕ → ℕ → ℕ → ℕ → ℕ
joins t a = λ i x. x ∪ cond (has (comp_of t i).uouts a) (comp_of t i).uouts 0

abbrev pub invariant-loop-i : goal.invariant-loop-i
invariant-loop-i l = over (joins l.t l.a) l.i l.n l.all ≡ over (joins l.t l.a) 0 l.n 0

abbrev pub decreases-loop-i : goal.decreases-loop-i
decreases-loop-i l = l.n - l.i
