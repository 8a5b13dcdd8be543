-- Laws of lists made over a range of numbers: put together, one place at a time, their lengths and sums.
use mathlib.Core.Path.{◌≡◌, refl, sym, ◌∙◌, ap, ap₂}
use mathlib.Core.List.{List, [], ◌∷◌, ◌++◌, append_assoc}
use Prim.Native.Nat.{ℕ, zero, suc, ◌+◌, ◌*◌, ◌-◌, ◌≤◌, ◌<◌}
use native.Mathlib.Numerals.{add-one}
use native.Mathlib.Omega.{arith}
use lib.ListN.{length, length-append}
use Rattle.laws.specs.Fold.{tab, spread, sum}

module _ {ℓ} {A : Type ℓ} (f : ℕ → A) where
  pub tab-append : (k n m : ℕ) → tab f k (n + m) ≡ tab f k n ++ tab f (k + n) m
  tab-append k zero m = let p : 0 + m ≡ m = omega arith in let q : k + 0 ≡ k = omega arith in rw (p, q)
  tab-append k (suc n) m =
      let p : suc n + m ≡ suc (n + m) = omega arith in
      let q : k + suc n ≡ suc k + n = omega arith in
      rw (p, q) (ap (λ l. f k ∷ l) (tab-append (suc k) n m))

  pub tab-next : (lo hi : ℕ) → lo < hi → tab f lo (hi - lo) ≡ f lo ∷ tab f (lo + 1) (hi - (lo + 1))
  tab-next lo hi h = let p : hi - lo ≡ suc (hi - suc lo) = omega arith in rw (add-one, p)

  pub tab-done : (lo hi : ℕ) → hi ≤ lo → tab f lo (hi - lo) ≡ []
  tab-done lo hi h = let p : hi - lo ≡ 0 = omega arith in rw p

pub tab-same {ℓ} : {A : Type ℓ} (f g : ℕ → A) (k n : ℕ) → ((j : ℕ) → k ≤ j → j < k + n → f j ≡ g j) → tab f k n ≡ tab g k n
tab-same f g k zero h = refl
tab-same f g k (suc n) h = ap₂ ◌∷◌ (h k (omega arith) (omega arith)) (tab-same f g (suc k) n (λ j p q. h j (omega arith) (omega arith)))

module _ {ℓ} {A : Type ℓ} (f : ℕ → List A) where
  pub spread-append : (k n m : ℕ) → spread f k (n + m) ≡ spread f k n ++ spread f (k + n) m
  spread-append k zero m = let p : 0 + m ≡ m = omega arith in let q : k + 0 ≡ k = omega arith in rw (p, q)
  spread-append k (suc n) m =
      let p : suc n + m ≡ suc (n + m) = omega arith in
      let q : k + suc n ≡ suc k + n = omega arith in
      rw (p, q) (ap (λ l. f k ++ l) (spread-append (suc k) n m) ∙ sym (append_assoc (f k) (spread f (suc k) n) (spread f (suc k + n) m)))

  pub spread-next : (lo hi : ℕ) → lo < hi → spread f lo (hi - lo) ≡ f lo ++ spread f (lo + 1) (hi - (lo + 1))
  spread-next lo hi h = let p : hi - lo ≡ suc (hi - suc lo) = omega arith in rw (add-one, p)

  pub spread-done : (lo hi : ℕ) → hi ≤ lo → spread f lo (hi - lo) ≡ []
  spread-done lo hi h = let p : hi - lo ≡ 0 = omega arith in rw p

  pub spread-length : (k n : ℕ) → length (spread f k n) ≡ sum (tab (λ j. length (f j)) k n)
  spread-length k zero = refl
  spread-length k (suc n) = length-append (f k) (spread f (suc k) n) ∙ ap (λ m. length (f k) + m) (spread-length (suc k) n)

pub spread_same {ℓ} : {A : Type ℓ} (f g : ℕ → List A) (k n : ℕ) → ((j : ℕ) → k ≤ j → j < k + n → f j ≡ g j) → spread f k n ≡ spread g k n
spread_same f g k zero h = refl
spread_same f g k (suc n) h = ap₂ ◌++◌ (h k (omega arith) (omega arith)) (spread_same f g (suc k) n (λ j p q. h j (omega arith) (omega arith)))

-- ---- one walk over the numbers s * n + t is two nested ones
module _ {A : Type 0} (f : ℕ → List A) where
  spread-shift : (d k n : ℕ) → spread f (d + k) n ≡ spread (λ j. f (d + j)) k n
  spread-shift d k zero = refl
  spread-shift d k (suc n) =
      let e : suc (d + k) ≡ d + suc k = omega arith in
      ap {B = List A} (λ l. f (d + k) ++ l) (ap (λ x. spread f x n) e ∙ spread-shift d (suc k) n)

  pairs-from : (n s m : ℕ) → spread f (s * n) (m * n) ≡ spread (λ s. spread (λ t. f (s * n + t)) 0 n) s m
  pairs-from n s zero = let e : 0 * n ≡ 0 = omega arith in rw e
  pairs-from n s (suc m) =
      let e : suc m * n ≡ n + m * n = omega arith in
      let k : s * n + n ≡ suc s * n = omega arith in
      let z : s * n ≡ s * n + 0 = omega arith in
      ap (spread f (s * n)) e
      ∙ spread-append f (s * n) n (m * n)
      ∙ ap₂ ◌++◌ (ap (λ x. spread f x n) z ∙ spread-shift (s * n) 0 n) (ap (λ x. spread f x (m * n)) k ∙ pairs-from n (suc s) m)

  pub spread-pairs : (m n : ℕ) → spread f 0 (m * n) ≡ spread (λ s. spread (λ t. f (s * n + t)) 0 n) 0 m
  spread-pairs m n = let e : 0 ≡ 0 * n = omega arith in ap (λ k. spread f k (m * n)) e ∙ pairs-from n 0 m

-- ---- sums over a range
module _ (f g : ℕ → ℕ) where
  pub sum-add : (k n : ℕ) → sum (tab (λ j. f j + g j) k n) ≡ sum (tab f k n) + sum (tab g k n)
  sum-add k zero = refl
  sum-add k (suc n) = omega (arith, sum-add (suc k) n)

  pub sum-le : (k n : ℕ) → ((j : ℕ) → k ≤ j → j < k + n → f j ≤ g j) → sum (tab f k n) ≤ sum (tab g k n)
  sum-le k zero h = omega arith
  sum-le k (suc n) h = omega (arith, h k (omega arith) (omega arith), sum-le (suc k) n (λ j p q. h j (omega arith) (omega arith)))

pub sum-at-most : (f : ℕ → ℕ) (b k n : ℕ) → ((j : ℕ) → k ≤ j → j < k + n → f j ≤ b) → sum (tab f k n) ≤ b * n
sum-at-most f b k zero h = omega arith
sum-at-most f b k (suc n) h = omega (arith, h k (omega arith) (omega arith), sum-at-most f b (suc k) n (λ j p q. h j (omega arith) (omega arith)))

pub sum-scale : (b : ℕ) (f : ℕ → ℕ) (k n : ℕ) → sum (tab (λ j. b * f j) k n) ≡ b * sum (tab f k n)
sum-scale b f k zero = omega arith
sum-scale b f k (suc n) = omega (arith, sum-scale b f (suc k) n)
