-- What each turn of the loop of `linking::starts` keeps.
use mathlib.Core.Path.{◌≡◌}
use mathlib.Core.List.{List}
use Prim.Native.Nat.{ℕ, ◌-◌}
use Rattle.laws.specs.Sets.{◌∪◌}
use Rattle.laws.specs.Fold.{over}
use Rattle.layout.specs.Image.{comp_of}
use Rattle.triggering.specs.Test.{uouts_at}
use Rattle.linking.proofs.starts.Given as goal

abbrev pub joins : List ℕ → ℕ → ℕ → ℕ
joins t = λ i x. x ∪ uouts_at (comp_of t i) (comp_of t i).start

abbrev pub invariant-loop-i : goal.invariant-loop-i
invariant-loop-i l = over (joins l.t) l.i l.n l.all ≡ over (joins l.t) 0 l.n 0

abbrev pub decreases-loop-i : goal.decreases-loop-i
decreases-loop-i l = l.n - l.i
