-- Laws of tests: what a joined test tells of its parts, and back.
use mathlib.Core.Path.{◌≡◌, refl}
use mathlib.Core.Logic.{◌↔◌, ◌⊎◌, inl, inr, by_cases}
use mathlib.Core.Bool.{Bool, true, false, ◌&&◌, ◌||◌, not, true≢false, false≢true}
use mathlib.Core.List.{List, [], ◌∷◌}
use Prim.Native.Nat.{ℕ, zero, suc, ◌<◌}
use lib.ListN.{get_or}
use native.Mathlib.Omega.{arith}
use native.Mathlib.Decide.{ℕ_discrete, dec_lt}
use Rattle.laws.specs.Tests.{both, all_of, Each}

pub both_true : (a b : Bool) → both a b ≡ true → (a ≡ true) × (b ≡ true)
unfolding both
both_true true b e = (refl, e)
both_true false b e = absurd (false≢true e)

pub true-both : (a b : Bool) → a ≡ true → b ≡ true → both a b ≡ true
unfolding both
true-both a b e f = rw (e, both) f

pub both-no : (a b : Bool) → a ≡ false → both a b ≡ false
unfolding both
both-no a b e = rw (e, both)

pub both_go : (a b : Bool) → a ≡ true → both a b ≡ b
unfolding both
both_go a b e = rw (e, both)

pub both_yes : (a b : Bool) → b ≡ true → both a b ≡ a
unfolding both
both_yes true b e = e
both_yes false b e = refl

pub and-true : (a b : Bool) → (a && b) ≡ true → (a ≡ true) × (b ≡ true)
and-true true b e = (refl, e)
and-true false b e = absurd (false≢true e)

pub and-false : (a b : Bool) → (a && b) ≡ false → a ≡ true → b ≡ false
and-false true b e h = e
and-false false b e h = absurd (false≢true h)

pub or-false : (a b : Bool) → (a || b) ≡ false → (a ≡ false) × (b ≡ false)
or-false true b e = absurd (true≢false e)
or-false false b e = (refl, e)

pub or-true : (b : Bool) → (b || true) ≡ true
or-true true = refl
or-true false = refl

pub and-not-both : (p q : Bool) → (p ≡ true → q ≡ true → ⊥) → (p && q) ≡ false
and-not-both true true f = absurd (f refl refl)
and-not-both true false f = refl
and-not-both false q f = refl

pub not_so : (b : Bool) → (b ≡ true → ⊥) → b ≡ false
not_so true f = absurd (f refl)
not_so false f = refl

pub each : (bs : List Bool) → all_of bs ≡ true → Each bs
unfolding all_of
each [] e = tt
each (b ∷ bs) e = let p = and-true b (all_of bs) e in (p.0, each bs p.1)

-- test number i
pub test_at : (bs : List Bool) → all_of bs ≡ true → (i : ℕ) → get_or bs i true ≡ true
unfolding all_of
test_at [] e i = refl
test_at (b ∷ bs) e zero = (and-true b (all_of bs) e).0
test_at (b ∷ bs) e (suc i) = test_at bs (and-true b (all_of bs) e).1 i

-- two numbers: the same, or one is below the other
pub apart-cases {ℓ} : {P : Type ℓ} (j k : ℕ) → (j ≡ k → P) → (j < k → P) → (k < j → P) → P
apart-cases j k f g h = by_cases (ℕ_discrete j k) f (λ ne. by_cases (dec_lt j k) g (λ n. h (omega arith)))

-- ---- a test that decides P by its failure
pub decided : (P : Type 0) (bad : Bool) → (bad ≡ false) ↔ P → P ⊎ (P → ⊥)
decided P true d = inr (λ p. true≢false (d.1 p))
decided P false d = inl (d.0 refl)

pub not-exactly : {P : Type 0} (b : Bool) → (b ≡ true) ↔ P → (not b ≡ false) ↔ P
not-exactly true d = (λ e. d.0 refl, λ p. refl)
not-exactly false d = (λ e. absurd (true≢false e), λ p. absurd (false≢true (d.1 p)))
