-- Among the numbers below n with a test, if there are any, one has nothing below it.
use mathlib.Core.Path.{◌≡◌, refl, sym, ◌∙◌, ap}
use mathlib.Core.Logic.{◌⊎◌, inl, inr}
use mathlib.Core.Bool.{Bool, true, false, true≢false}
use Prim.Native.Nat.{ℕ, zero, suc, ◌<◌}
use native.Mathlib.Omega.{arith}
use native.Mathlib.Decide.{ℕ_discrete}
use Rattle.laws.proofs.TestLaws.{not_so}

-- x has the test f, and no y with it is `under` x
pub record Minimal (f : ℕ → Bool) (under : ℕ → ℕ → Bool) (n x : ℕ) : Type 0 where
  pub below : x < n
  pub here : f x ≡ true
  pub least : (y : ℕ) → y < n → f y ≡ true → under y x ≡ false

module _ (f : ℕ → Bool) (under : ℕ → ℕ → Bool) (irr : (x : ℕ) → under x x ≡ false) (tr : (x y z : ℕ) → under x y ≡ true → under y z ≡ true
    → under x z ≡ true) where
  -- no number below n has the test, or one is minimal
  None : ℕ → Type 0
  None n = (k : ℕ) → k < n → f k ≡ false

  Some : ℕ → Type 0
  Some n = (x : ℕ) × Minimal f under n x

  last : {P : Type 0} (n y : ℕ) → y < suc n → (y ≡ n → P) → (y < n → P) → P
  last n y h p q = elim (ℕ_discrete y n) [ yes e ↦ p e | no e ↦ q (omega arith) ]

  minimal-or-none : (n : ℕ) → None n ⊎ Some n
  unfolding None Some
  minimal-or-none zero = inl (λ k h. absurd (omega arith))
  minimal-or-none (suc n) = go (f n) refl (minimal-or-none n)
    where
      -- n itself
      self : f n ≡ true → ((y : ℕ) → y < n → f y ≡ true → under y n ≡ false) → Some (suc n)
      self e h = (n, record { below = omega arith; here = e; least = λ y l t. last n y l (λ w. rw w (irr n)) (λ w. h y w t) })

      -- the one found before
      still : (x : ℕ) → Minimal f under n x → (f n ≡ true → under n x ≡ false) → Some (suc n)
      still x m h =
          (x, record { below = omega (arith, m.below); here = m.here; least = λ y l t. last n y l (λ w. rw w (h (rw w at t))) (λ w. m.least y w t) })

      compare : f n ≡ true → (x : ℕ) → Minimal f under n x → (b : Bool) → under n x ≡ b → Some (suc n)
      compare e x m true u = self e (λ y l t. not_so (under y n) (λ v. true≢false (sym (tr y n x v u) ∙ m.least y l t)))
      compare e x m false u = still x m (λ t. u)

      go : (b : Bool) → f n ≡ b → None n ⊎ Some n → None (suc n) ⊎ Some (suc n)
      go false e (inl h) = inl (λ k l. last n k l (λ w. ap f w ∙ e) (λ w. h k w))
      go false e (inr m) = inr (still m.0 m.1 (λ t. absurd (true≢false (sym t ∙ e))))
      go true e (inl h) = inr (self e (λ y l t. absurd (true≢false (sym t ∙ h y l))))
      go true e (inr m) = inr (compare e m.0 m.1 (under n m.0) refl)

  pub has-minimal : (n k : ℕ) → k < n → f k ≡ true → (x : ℕ) × Minimal f under n x
  unfolding None Some
  has-minimal n k h e = go (minimal-or-none n)
    where
      go : None n ⊎ Some n → (x : ℕ) × Minimal f under n x
      go (inl z) = absurd (true≢false (sym e ∙ z k h))
      go (inr m) = m
