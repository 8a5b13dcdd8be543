-- Laws of folds over a range: how a loop goes on, and what its end tells.
use mathlib.Core.Path.{◌≡◌, refl, sym, ◌∙◌, ap}
use mathlib.Core.Bool.{Bool, true, false, false≢true}
use mathlib.Core.List.{List, [], ◌∷◌}
use Prim.Native.Nat.{ℕ, zero, suc, ◌+◌, ◌-◌, ◌≤◌, ◌<◌}
use native.Mathlib.Numerals.{add-one}
use native.Mathlib.Omega.{arith}
use native.Mathlib.Decide.{ℕ_discrete}
use lib.ListN.{length, get_or, set}
use Rattle.laws.specs.Fold.{over_from, over, tab, all_from, all, sum}

module _ {A : Type 0} (f : ℕ → A → A) where
  pub over-next : (lo hi : ℕ) (x : A) → lo < hi → over f lo hi x ≡ over f (lo + 1) hi (f lo x)
  unfolding over over_from
  over-next lo hi x h = let p : hi - lo ≡ suc (hi - suc lo) = omega arith in rw (add-one, p)

  pub over-end : (lo hi : ℕ) (x : A) → hi ≤ lo → over f lo hi x ≡ x
  unfolding over over_from
  over-end lo hi x h = let p : hi - lo ≡ 0 = omega arith in rw p

module _ (f : ℕ → Bool) where
  pub all-next : (lo hi : ℕ) → lo < hi → f lo ≡ true → all f lo hi ≡ all f (lo + 1) hi
  unfolding all all_from
  all-next lo hi h e = let p : hi - lo ≡ suc (hi - suc lo) = omega arith in rw (add-one, p) (rw (e, all_from))

  pub all_here : (lo hi : ℕ) → lo < hi → f lo ≡ false → all f lo hi ≡ false
  unfolding all all_from
  all_here lo hi h e = let p : hi - lo ≡ suc (hi - suc lo) = omega arith in rw p (rw (e, all_from))

  pub all_end : (lo hi : ℕ) → hi ≤ lo → all f lo hi ≡ true
  unfolding all all_from
  all_end lo hi h = let p : hi - lo ≡ 0 = omega arith in rw p

  from-true : (n k : ℕ) → all_from f n k ≡ true → (j : ℕ) → k ≤ j → j < k + n → f j ≡ true
  unfolding all_from
  from-true zero k e j p q = absurd (omega arith)
  from-true (suc n) k e j p q = go (from-true n (suc k)) (f k) refl e
    where
      go : (all_from f n (suc k) ≡ true → (i : ℕ) → suc k ≤ i → i < suc k + n → f i ≡ true) → (b : Bool) → f k ≡ b
          → (elim b as (λ _. Bool) [ true ↦ all_from f n (suc k) | false ↦ false ]) ≡ true → f j ≡ true
      go ih true h e = elim (ℕ_discrete j k) [ yes w ↦ ap f w ∙ h | no w ↦ ih e j (omega arith) (omega arith) ]
      go ih false h e = absurd (false≢true e)

  true-from : (n k : ℕ) → ((j : ℕ) → k ≤ j → j < k + n → f j ≡ true) → all_from f n k ≡ true
  unfolding all_from
  true-from zero k h = refl
  true-from (suc n) k h = rw (h k (omega arith) (omega arith), all_from) (true-from n (suc k) (λ j p q. h j (omega arith) (omega arith)))

  pub all_true : (lo hi : ℕ) → all f lo hi ≡ true → (j : ℕ) → lo ≤ j → j < hi → f j ≡ true
  unfolding all
  all_true lo hi e j p q = from-true (hi - lo) lo e j p (omega arith)

  pub true-all : (lo hi : ℕ) → ((j : ℕ) → lo ≤ j → j < hi → f j ≡ true) → all f lo hi ≡ true
  unfolding all
  true-all lo hi h = true-from (hi - lo) lo (λ j p q. h j p (omega arith))

-- ---- lists by index
pub tab-length {ℓ} : {A : Type ℓ} (f : ℕ → A) (k n : ℕ) → length (tab f k n) ≡ n
tab-length f k zero = refl
tab-length f k (suc n) = ap suc (tab-length f (suc k) n)

pub tab-at {ℓ} : {A : Type ℓ} (f : ℕ → A) (d : A) (k n j : ℕ) → j < n → get_or (tab f k n) j d ≡ f (k + j)
tab-at f d k zero j h = absurd (omega arith)
tab-at f d k (suc n) zero h = ap f (omega arith)
tab-at f d k (suc n) (suc j) h = tab-at f d (suc k) n j (omega arith) ∙ ap f (omega arith)

pub sum-set : (A : List ℕ) (i v : ℕ) → i < length A → sum (set A i v) + get_or A i 0 ≡ sum A + v
sum-set [] i v h = absurd (omega arith)
sum-set (x ∷ xs) zero v h = omega arith
sum-set (x ∷ xs) (suc i) v h = omega (arith, sum-set xs i v (omega arith))

-- ---- a loop that tests every place, where what is left comes to x
module _ (f : ℕ → Bool) {x : Bool} (k hi : ℕ) (inv : all f k hi ≡ x) where
  pub all-fails : k < hi → f k ≡ false → false ≡ x
  all-fails h e = sym (all_here f k hi h e) ∙ inv

  pub all-goes-on : k < hi → f k ≡ true → all f (k + 1) hi ≡ x
  all-goes-on h e = sym (all-next f k hi h e) ∙ inv

  pub all-passed : hi ≤ k → true ≡ x
  all-passed h = sym (all_end f k hi h) ∙ inv
