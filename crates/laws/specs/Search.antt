-- "Places are the least possible" (paper 01, "Refusal numbers"): one search for every least place.
use Rattle.std.specs.Prelude.{◌≡◌, Bool, true, false, ℕ, zero, suc, ◌-◌, ◌≤◌, ◌<◌}
use Rattle.std.proofs.Math.Option.{Option, none, some}

-- the answer of the first place that has one, of n places from k on
unfoldable pub first_from : {A : Type 0} → (ℕ → Option A) → ℕ → ℕ → Option A
first_from f zero k = none
first_from f (suc n) k = elim (f k) [ none ↦ first_from f n (suc k) | some x ↦ some x ]

-- the answer of the first place that has one, from lo on, below hi
unfoldable pub seek : {A : Type 0} → (ℕ → Option A) → ℕ → ℕ → Option A
unfolding first_from
seek f lo hi = first_from f (hi - lo) lo

-- x where b holds, else nothing
abbrev pub when {ℓ} : {A : Type ℓ} → Bool → A → Option A
when true x = some x
when false x = none

abbrev pub is_some {ℓ} : {A : Type ℓ} → Option A → Bool
is_some none = false
is_some (some x) = true

-- the first answer of two
abbrev pub or_else {ℓ} : {A : Type ℓ} → Option A → Option A → Option A
or_else none o = o
or_else (some x) o = some x

abbrev pub map_some {ℓ ℓ'} : {A : Type ℓ} {B : Type ℓ'} → (A → B) → Option A → Option B
map_some f none = none
map_some f (some x) = some (f x)

-- the least k below n with the test f
abbrev pub least : (ℕ → Bool) → ℕ → Option ℕ
least f n = seek (λ k. when (f k) k) 0 n

-- there is a k below n with the test f
abbrev pub any : (ℕ → Bool) → ℕ → Bool
any f n = is_some (least f n)

-- the lowest s below n, then the lowest a below m, with the test f; x s a is the answer there
abbrev pub least2 : {A : Type 0} → (ℕ → ℕ → Bool) → (ℕ → ℕ → A) → ℕ → ℕ → Option A
least2 f x n m = seek (λ s. seek (λ a. when (f s a) (x s a)) 0 m) 0 n

-- ---- what an answer tells
-- x is the answer at a place from lo on, below hi, and no earlier place has one
pub record Found {A : Type 0} (f : ℕ → Option A) (lo hi : ℕ) (x : A) : Type 0 where
  pub place : ℕ
  pub from : lo ≤ place
  pub below : place < hi
  pub here : f place ≡ some x
  pub least : (j : ℕ) → lo ≤ j → j < place → f j ≡ none

-- k is the least number below n with the test f
pub record Least (f : ℕ → Bool) (n k : ℕ) : Type 0 where
  pub below : k < n
  pub here : f k ≡ true
  pub before : (j : ℕ) → j < k → f j ≡ false

-- s, a is the least pair with the test f: s first, then a
pub record Least2 (f : ℕ → ℕ → Bool) (n m s a : ℕ) : Type 0 where
  pub first : s < n
  pub second : a < m
  pub here : f s a ≡ true
  pub lower : (t b : ℕ) → t < s → b < m → f t b ≡ false
  pub before : (b : ℕ) → b < a → f s b ≡ false
