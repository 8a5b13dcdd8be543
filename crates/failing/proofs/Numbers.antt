-- The number of an error, by its sign.
use mathlib.Core.Path.{◌≡◌, refl}
use mathlib.Core.Bool.{true, false, true≢false}
use native.Mathlib.Omega.{arith}
use borrow.Author.Tests.{ltb-true}
use lib.Dec.{T}
use lib.IntN.{ℤ, pos, negsuc, nat_abs}
use lib.Signed.{lt_z, non_neg}
use mir.Val.{Fits, SFits}
use mir.Syntax.{w32, w64}
use Rattle.failing.specs.Line.{error_number}

pub number-below : (e : ℤ) → lt_z e (pos 0) ≡ true → 0 ≡ error_number e
unfolding error_number
number-below (pos n) h = absurd (omega (arith, ltb-true n 0 h))
number-below (negsuc n) h = refl

pub number-own : (e : ℤ) → lt_z e (pos 0) ≡ false → nat_abs e ≡ error_number e
unfolding error_number
number-own (pos n) h = refl
number-own (negsuc n) h = absurd (true≢false h)

pub number-sign : (e : ℤ) → lt_z e (pos 0) ≡ false → T (non_neg e)
number-sign (pos n) h = tt
number-sign (negsuc n) h = absurd (true≢false h)

pub number_fits : (e : ℤ) → SFits w32 e → Fits w64 (nat_abs e)
number_fits (pos n) f = record { fits = omega (arith, f.sfits) }
number_fits (negsuc n) f = record { fits = omega (arith, f.sfits) }
