-- The lent numbers of a clock: word 64 k + x is there, or it is not.
use mathlib.Core.Path.{◌≡◌, refl, sym, ◌∙◌, ap}
use mathlib.Core.Option.{none, some}
use mathlib.Core.List.{List, [], ◌∷◌}
use Prim.Native.Nat.{ℕ, zero, suc, ◌+◌, ◌*◌, ◌-◌, ◌/◌, ◌≤◌, ◌<◌}
use native.Mathlib.Omega.{arith}
use lib.ListN.{length, get_or}
use Rattle.laws.proofs.SearchLaws.{no-some}
use Rattle.answer.specs.Limits.{max_clocks}
use Rattle.simulation.specs.Samples.{nth}
use Rattle.drawing.specs.Draws.{lent}

nth_beyond : (ns : List ℕ) (j : ℕ) → length ns ≤ j → nth ns j ≡ none
unfolding nth
nth_beyond [] j h = refl
nth_beyond (n ∷ ns) zero h = absurd (omega arith)
nth_beyond (n ∷ ns) (suc j) h = nth_beyond ns j (omega arith)

nth_here : (ns : List ℕ) (j : ℕ) → j < length ns → nth ns j ≡ some (get_or ns j 0)
unfolding nth
nth_here [] j h = absurd (omega arith)
nth_here (n ∷ ns) zero h = refl
nth_here (n ∷ ns) (suc j) h = nth_here ns j (omega arith)

nth-below : (ns : List ℕ) (j n : ℕ) → nth ns j ≡ some n → j < length ns
unfolding nth
nth-below [] j n e = absurd (no-some refl e)
nth-below (m ∷ ns) zero n e = omega arith
nth-below (m ∷ ns) (suc j) n e = omega (arith, nth-below ns j n e)

module _ (ns : List ℕ) (x k : ℕ) where
  pub far-beyond : length ns / max_clocks < k → none ≡ lent ns x k
  unfolding lent
  far-beyond h = sym (nth_beyond ns (max_clocks * k + x) (omega arith))

  pub row-beyond : length ns - k * max_clocks ≤ x → none ≡ lent ns x k
  unfolding lent
  row-beyond h = sym (nth_beyond ns (max_clocks * k + x) (omega arith))

  pub word-here : k * max_clocks + x < length ns → some (get_or ns (k * max_clocks + x) 0) ≡ lent ns x k
  unfolding lent
  word-here h =
      let e : max_clocks * k + x ≡ k * max_clocks + x = omega arith in
      sym (ap (nth ns) e ∙ nth_here ns (k * max_clocks + x) h)

  pub number-below : (n : ℕ) → some n ≡ lent ns x k → k < length ns
  unfolding lent
  number-below n e = omega (arith, nth-below ns (max_clocks * k + x) n (sym e))
