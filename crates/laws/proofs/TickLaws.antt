-- Laws of signed numbers by their tests: the order, and what a number less a count comes to.
use mathlib.Core.Path.{◌≡◌, refl, ap}
use mathlib.Core.Bool.{Bool, true, false, cond, true≢false, false≢true}
use Prim.Native.Nat.{ℕ, zero, suc, ◌+◌, ◌-◌}
use native.Mathlib.Omega.{arith}
use lib.Dec.{ltb}
use lib.IntN.{ℤ, pos, negsuc, ◌-ℤ◌}
use lib.Signed.{lt_z, le_z}
use borrow.Author.Tests.{ltb-true, ltb-false, leb-true, lt-ltb, le-ltb, le-leb}

-- ---- the order
pub less-irreflexive : (a : ℤ) → lt_z a a ≡ false
less-irreflexive (pos a) = le-ltb a a (omega arith)
less-irreflexive (negsuc a) = le-ltb a a (omega arith)

pub less-transitive : (a b c : ℤ) → lt_z a b ≡ true → lt_z b c ≡ true → lt_z a c ≡ true
less-transitive (pos a) (pos b) (pos c) h k = lt-ltb a c (omega (arith, ltb-true a b h, ltb-true b c k))
less-transitive (pos a) (pos b) (negsuc c) h k = absurd (false≢true k)
less-transitive (pos a) (negsuc b) c h k = absurd (false≢true h)
less-transitive (negsuc a) (pos b) (pos c) h k = refl
less-transitive (negsuc a) (pos b) (negsuc c) h k = absurd (false≢true k)
less-transitive (negsuc a) (negsuc b) (pos c) h k = refl
less-transitive (negsuc a) (negsuc b) (negsuc c) h k = lt-ltb c a (omega (arith, ltb-true b a h, ltb-true c b k))

-- of two numbers one is less, or they are the same
pub less-total : (a b : ℤ) → lt_z a b ≡ false → lt_z b a ≡ false → a ≡ b
less-total (pos a) (pos b) h k = ap pos (omega (arith, ltb-false a b h, ltb-false b a k))
less-total (pos a) (negsuc b) h k = absurd (true≢false k)
less-total (negsuc a) (pos b) h k = absurd (true≢false h)
less-total (negsuc a) (negsuc b) h k = ap negsuc (omega (arith, ltb-false b a h, ltb-false a b k))

pub at_most : (a b : ℤ) → lt_z b a ≡ false → le_z a b ≡ true
at_most (pos a) (pos b) h = le-leb a b (ltb-false b a h)
at_most (pos a) (negsuc b) h = absurd (true≢false h)
at_most (negsuc a) (pos b) h = refl
at_most (negsuc a) (negsuc b) h = le-leb b a (ltb-false a b h)

pub not-less : (a b : ℤ) → le_z a b ≡ true → lt_z b a ≡ false
not-less (pos a) (pos b) h = le-ltb b a (leb-true a b h)
not-less (pos a) (negsuc b) h = absurd (false≢true h)
not-less (negsuc a) (pos b) h = refl
not-less (negsuc a) (negsuc b) h = le-ltb a b (leb-true b a h)

pub at-most-transitive : (a b c : ℤ) → le_z a b ≡ true → le_z b c ≡ true → le_z a c ≡ true
at-most-transitive (pos a) (pos b) (pos c) h k = le-leb a c (omega (arith, leb-true a b h, leb-true b c k))
at-most-transitive (pos a) (pos b) (negsuc c) h k = absurd (false≢true k)
at-most-transitive (pos a) (negsuc b) c h k = absurd (false≢true h)
at-most-transitive (negsuc a) (pos b) (pos c) h k = refl
at-most-transitive (negsuc a) (pos b) (negsuc c) h k = absurd (false≢true k)
at-most-transitive (negsuc a) (negsuc b) (pos c) h k = refl
at-most-transitive (negsuc a) (negsuc b) (negsuc c) h k = le-leb c a (omega (arith, leb-true b a h, leb-true c b k))

-- no less than 0: a count
pub count-of : (a : ℤ) → lt_z a (pos 0) ≡ false → (n : ℕ) × (a ≡ pos n)
count-of (pos n) h = (n, refl)
count-of (negsuc n) h = absurd (true≢false h)

-- ---- a number less a count
-- is no more than the number
pub less-count-at-most : (a : ℤ) (n : ℕ) → le_z (a -ℤ pos n) a ≡ true
less-count-at-most (pos a) zero = le-leb (a + 0) a (omega arith)
less-count-at-most (pos a) (suc n) = go (ltb a (suc n)) refl
  where
    go : (b : Bool) → ltb a (suc n) ≡ b → le_z (cond b (negsuc (suc n - suc a)) (pos (a - suc n))) (pos a) ≡ true
    go true e = refl
    go false e = le-leb (a - suc n) a (omega arith)
less-count-at-most (negsuc a) zero = rw (lt-ltb 0 (suc a) (omega arith)) (le-leb a (suc a - 1) (omega arith))
less-count-at-most (negsuc a) (suc n) = le-leb a (suc (a + n)) (omega arith)

-- and no less than 0 where the number is no less than the count
pub less-count-not-below : (a : ℤ) (n : ℕ) → lt_z a (pos n) ≡ false → lt_z (a -ℤ pos n) (pos 0) ≡ false
less-count-not-below (pos a) zero h = le-ltb (a + 0) 0 (omega arith)
less-count-not-below (pos a) (suc n) h = rw (h) (le-ltb (a - suc n) 0 (omega arith))
less-count-not-below (negsuc a) n h = absurd (true≢false h)
