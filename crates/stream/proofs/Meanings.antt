-- What an answer of the system's means, by its cases.
use mathlib.Core.Path.{◌≡◌, refl}
use mathlib.Core.Bool.{Bool, true, false, cond, false≢true}
use Prim.Native.Nat.{ℕ, ◌≤◌}
use native.Mathlib.Omega.{arith}
use lib.Dec.{T}
use lib.IntN.{ℤ, pos, negsuc, nat_abs}
use lib.Signed.{le_z, non_neg}
use mir.Val.{Fits, SFits, of_z}
use mir.Syntax.{w32, w64}
use borrow.Author.Tests.{leb-false, eq-eqb, ne_eqb}
use Rattle.stream.specs.Stream.{Tried, passes, tried_of, AtMost}
use Rattle.std.specs.Prelude.{Ok, Err, Some, None}

-- ---- a number of bytes
pub is-count : (z : ℤ) → le_z (pos 0) z ≡ true → T (non_neg z)
is-count (pos n) h = tt
is-count (negsuc n) h = absurd (false≢true h)

pub count_fits : (z : ℤ) → SFits w64 z → Fits w64 (nat_abs z)
count_fits (pos n) f = record { fits = omega (arith, f.sfits) }
count_fits (negsuc n) f = record { fits = omega (arith, f.sfits) }

pub moved-of : (z e : ℤ) → le_z (pos 0) z ≡ true → ◌≡◌ {A = Tried} (Ok (Some (nat_abs z))) (tried_of z e)
unfolding tried_of
moved-of (pos n) e h = refl
moved-of (negsuc n) e h = absurd (false≢true h)

-- ---- an error, by its bits
pub again-of : (z e : ℤ) → le_z (pos 0) z ≡ false → passes e ≡ true → ◌≡◌ {A = Tried} (Ok None) (tried_of z e)
unfolding tried_of
again-of (pos n) e h p = absurd (omega (arith, leb-false 0 n h))
again-of (negsuc n) e h p = rw p

pub failed-of : (z e : ℤ) → le_z (pos 0) z ≡ false → passes e ≡ false → ◌≡◌ {A = Tried} (Err e) (tried_of z e)
unfolding tried_of
failed-of (pos n) e h p = absurd (omega (arith, leb-false 0 n h))
failed-of (negsuc n) e h p = rw p

pub passes-4 : (e : ℤ) → SFits w32 e → of_z w32 e ≡ 4 → passes e ≡ true
unfolding passes
passes-4 (pos n) f h = rw (eq-eqb n 4 h)
passes-4 (negsuc n) f h = absurd (omega (arith, f.sfits))

pub passes-11 : (e : ℤ) → SFits w32 e → of_z w32 e ≡ 11 → passes e ≡ true
unfolding passes
passes-11 (pos n) f h = simp h
passes-11 (negsuc n) f h = absurd (omega (arith, f.sfits))

pub stays : (e : ℤ) → (of_z w32 e ≡ 4 → ⊥) → (of_z w32 e ≡ 11 → ⊥) → passes e ≡ false
unfolding passes
stays (pos n) a b = rw (ne_eqb n 4 a, ne_eqb n 11 b)
stays (negsuc n) a b = refl

-- ---- no more was moved than the system was handed
pub at_most : (most n : ℕ) (e : ℤ) → n ≤ most → AtMost most (tried_of (pos n) e)
unfolding tried_of
at_most most k e h n same = let w : k ≡ n = cc in omega (arith, h, w)

pub none_moved : (most k : ℕ) (e : ℤ) → AtMost most (tried_of (negsuc k) e)
unfolding tried_of
none_moved most k e n same = absurd (go (passes e) same)
  where
    go : (b : Bool) → ◌≡◌ {A = Tried} (cond b (Ok None) (Err e)) (Ok (Some n)) → ⊥
    go true same = let z : ◌≡◌ {A = ℕ} 0 1 = cc in omega arith
    go false same = let z : ◌≡◌ {A = ℕ} 0 1 = cc in omega arith
