-- Folds over a range of numbers: what a loop from lo to hi makes of a value.
use Rattle.std.specs.Prelude.{List, [], ◌∷◌, ◌++◌, Bool, true, false, ℕ, zero, suc, ◌+◌, ◌-◌}

-- f at k, k + 1, .., of n places, one after the other
unfoldable pub over_from : {A : Type 0} → (ℕ → A → A) → ℕ → ℕ → A → A
over_from f zero k x = x
over_from f (suc n) k x = over_from f n (suc k) (f k x)

-- f at lo, lo + 1, .., below hi
unfoldable pub over : {A : Type 0} → (ℕ → A → A) → ℕ → ℕ → A → A
unfolding over_from
over f lo hi x = over_from f (hi - lo) lo x

-- f at each number from k on, of n places, as a list
abbrev pub tab {ℓ} : {A : Type ℓ} → (ℕ → A) → ℕ → ℕ → List A
tab f k zero = []
tab f k (suc n) = f k ∷ tab f (suc k) n

-- the lists of f from k on, of n places, one after the other
abbrev pub spread {ℓ} : {A : Type ℓ} → (ℕ → List A) → ℕ → ℕ → List A
spread f k zero = []
spread f k (suc n) = f k ++ spread f (suc k) n

-- f holds at k, k + 1, .., of n places
unfoldable pub all_from : (ℕ → Bool) → ℕ → ℕ → Bool
all_from f zero k = true
all_from f (suc n) k = elim (f k) [ true ↦ all_from f n (suc k) | false ↦ false ]

-- f holds at lo, lo + 1, .., below hi
unfoldable pub all : (ℕ → Bool) → ℕ → ℕ → Bool
unfolding all_from
all f lo hi = all_from f (hi - lo) lo

abbrev pub sum : List ℕ → ℕ
sum [] = 0
sum (x ∷ xs) = x + sum xs
