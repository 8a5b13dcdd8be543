-- What is not below zero stays so through sums and products, and is no NaN; what lies between two finite values is finite.
use Rattle.std.proofs.Common.{ℕ, zero, suc, ◌+◌, ◌*◌, ◌^◌, Bool, true, false, cond, not, T, ltb, sym, refl, subst, true≢false, nltb→le}
use lib.Ieee.{Float, nan, inf, fin, Format, prec, emax, low, up, down, odd, units, round, sum, add, mul, lt, le}
use lib.Ieee.Fits.{down_pos, round_is}
use lib.Ieee.Exact.{HasValue}
use lib.Ieee.Order.{le_of_values}
use lib.Ieee.Positive.{positive}

abbrev pub notneg : Float → Bool
notneg nan = false
notneg (inf s) = not s
notneg (fin s m e) = not s

-- and finite besides
abbrev pub plain : Float → Bool
plain nan = false
plain (inf s) = false
plain (fin s m e) = not s

-- ---- a rounded fraction
odd-notneg : (d q k l : ℕ) → T (notneg (odd d false q k l))
unfolding odd
odd-notneg d zero k l = tt
odd-notneg d (suc q) k l = tt

units-notneg : (f : Format) (q k : ℕ) → T (notneg (units f false q k))
unfolding units
units-notneg f q k = go (ltb (q * 2 ^ k) (2 ^ (low f + suc (emax f))))
  where
    go : (b : Bool) → T (notneg (cond b (odd (suc (prec f)) false q k (low f)) (inf false)))
    go true = odd-notneg (suc (prec f)) q k (low f)
    go false = tt

pub round-notneg : (f : Format) (a c : ℕ) → T (notneg (round f false a c))
round-notneg f a c = subst (λ (x : Float). T (notneg x)) (sym (round_is f false a c)) (units-notneg f _ _)

-- ---- finite values
-- what is not below zero and not above a finite value
pub capped : (x y : Float) → T (notneg x) → T (plain y) → T (le x y) → T (plain x)
unfolding le
capped nan y a p h = absurd a
capped (inf true) y a p h = absurd a
capped (inf false) nan a p h = absurd p
capped (inf false) (inf t) a p h = absurd p
capped (inf false) (fin t n d) a p h = absurd h
capped (fin s m e) y a p h = a

pub plain-of-value : (x : Float) (a c : ℕ) → HasValue x false a c → T (plain x)
plain-of-value nan a c h = absurd h
plain-of-value (inf s) a c h = absurd h
plain-of-value (fin true m e) a c h = absurd (true≢false h.0)
plain-of-value (fin false m e) a c h = tt

pub plain-of-positive : (x : Float) → T (positive x) → T (plain x)
plain-of-positive nan p = absurd p
plain-of-positive (inf s) p = absurd p
plain-of-positive (fin true m e) p = absurd p
plain-of-positive (fin false m e) p = tt

-- ---- the product and the sum
pub mul-notneg : (f : Format) (x y : Float) → T (plain x) → T (plain y) → T (notneg (mul f x y))
unfolding mul
mul-notneg f nan y p q = absurd p
mul-notneg f (inf s) y p q = absurd p
mul-notneg f (fin true m e) y p q = absurd p
mul-notneg f (fin false m e) nan p q = absurd q
mul-notneg f (fin false m e) (inf t) p q = absurd q
mul-notneg f (fin false m e) (fin true n d) p q = absurd q
mul-notneg f (fin false m e) (fin false n d) p q = round-notneg f (m * up e * (n * up d)) (down e * down d)

pub add-notneg : (f : Format) (x y : Float) → T (plain x) → T (notneg y) → T (notneg (add f x y))
unfolding add sum
add-notneg f nan y p q = absurd p
add-notneg f (inf s) y p q = absurd p
add-notneg f (fin true m e) y p q = absurd p
add-notneg f (fin false m e) nan p q = absurd q
add-notneg f (fin false m e) (inf t) p q = q
add-notneg f (fin false m e) (fin true n d) p q = absurd q
add-notneg f (fin false m e) (fin false n d) p q = round-notneg f (m * up e * down d + n * up d * down e) (down e * down d)

-- ---- from "not below" to "at least", where the value may be an infinity
pub not-below : (x v : Float) → T (positive x) → T (notneg v) → T (not (lt v x)) → T (le x v)
unfolding lt
not-below nan v p q h = absurd p
not-below (inf s) v p q h = absurd p
not-below (fin true m e) v p q h = absurd p
not-below (fin false m e) nan p q h = absurd q
not-below (fin false m e) (inf true) p q h = absurd q
not-below (fin false m e) (inf false) p q h = unfold le in tt
not-below (fin false m e) (fin true n d) p q h = absurd q
not-below (fin false m e) (fin false n d) p q h =
    le_of_values (fin false m e) (fin false n d) (m * up e) (down e) (n * up d) (down d) (down_pos e) (down_pos d) (refl, refl) (refl, refl)
    (nltb→le (n * up d * down e) (m * up e * down d) h)

pub not-above : (v x : Float) → T (positive x) → T (notneg v) → T (not (lt x v)) → T (le v x)
unfolding lt
not-above nan x p q h = absurd q
not-above (inf true) x p q h = absurd q
not-above (inf false) nan p q h = absurd p
not-above (inf false) (inf t) p q h = absurd p
not-above (inf false) (fin true m e) p q h = absurd p
not-above (inf false) (fin false m e) p q h = absurd h
not-above (fin true n d) x p q h = absurd q
not-above (fin false n d) nan p q h = absurd p
not-above (fin false n d) (inf t) p q h = absurd p
not-above (fin false n d) (fin true m e) p q h = absurd p
not-above (fin false n d) (fin false m e) p q h =
    le_of_values (fin false n d) (fin false m e) (n * up d) (down d) (m * up e) (down e) (down_pos d) (down_pos e) (refl, refl) (refl, refl)
    (nltb→le (m * up e * down d) (n * up d * down e) h)
