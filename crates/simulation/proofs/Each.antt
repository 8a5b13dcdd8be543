-- A list changed place by place: its length, and each of its places.
use mathlib.Core.Path.{◌≡◌, refl, sym, ◌∙◌, ap}
use mathlib.Core.List.{List, [], ◌∷◌}
use Prim.Native.Nat.{ℕ, zero, suc, ◌+◌, ◌≤◌, ◌<◌}
use native.Mathlib.Omega.{arith}
use lib.ListN.{length, get_or, get_or-eq_default}
use Rattle.simulation.specs.Simulate.{each_from}

module _ {A : Type 0} (f : ℕ → A → A) (d : A) where
  pub each-length : (k : ℕ) (zs : List A) → length (each_from f k zs) ≡ length zs
  unfolding each_from
  each-length k [] = refl
  each-length k (z ∷ zs) = ap suc (each-length (suc k) zs)

  at_from : (k : ℕ) (zs : List A) (j : ℕ) → j < length zs → get_or (each_from f k zs) j d ≡ f (k + j) (get_or zs j d)
  unfolding each_from
  at_from k [] j h = absurd (omega arith)
  at_from k (z ∷ zs) zero h = let e : k ≡ k + 0 = omega arith in ap (λ n. f n z) e
  at_from k (z ∷ zs) (suc j) h = let e : suc k + j ≡ k + suc j = omega arith in at_from (suc k) zs j (omega arith) ∙ ap (λ n. f n (get_or zs j d)) e

  pub each_at : (zs : List A) (j : ℕ) → j < length zs → get_or (each_from f 0 zs) j d ≡ f j (get_or zs j d)
  each_at zs j h = let e : 0 + j ≡ j = omega arith in at_from 0 zs j h ∙ ap (λ n. f n (get_or zs j d)) e

  pub each-beyond : (zs : List A) (j : ℕ) → length zs ≤ j → get_or (each_from f 0 zs) j d ≡ get_or zs j d
  each-beyond zs j h = get_or-eq_default (each_from f 0 zs) d (omega (arith, each-length 0 zs)) ∙ sym (get_or-eq_default zs d h)
