-- What each turn of the loop of `layout::joined` keeps.
use mathlib.Core.Path.{◌≡◌}
use mathlib.Core.List.{List}
use Prim.Native.Nat.{ℕ, ◌-◌, ◌≤◌}
use Rattle.laws.specs.Sets.{◌∪◌}
use Rattle.laws.specs.Fold.{over}
use Rattle.layout.specs.Layout.{block_word, joined_word}
use Rattle.layout.proofs.joined.Given as goal

abbrev pub join : List ℕ → ℕ → ℕ → ℕ → ℕ
join t k i s = s ∪ block_word t i k

abbrev pub invariant-loop-i : goal.invariant-loop-i
invariant-loop-i l = (l.i ≤ l.n) × (over (join l.t l.k) l.i l.n l.set ≡ joined_word l.t l.k)

abbrev pub decreases-loop-i : goal.decreases-loop-i
decreases-loop-i l = l.n - l.i
