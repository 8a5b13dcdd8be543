-- Which patterns are a NaN's: those above an infinity's, the sign left out.
use mathlib.Core.Path.{◌≡◌, ◌∙◌}
use mathlib.Core.Bool.{true, false}
use Prim.Native.Nat.{ℕ, ◌%◌, ◌≤◌, ◌<◌}
use borrow.Author.Tests.{lt-ltb, le-ltb}
use lib.Ieee.{binary64, of_bits, nan_bits}
use lib.Ieee.Bits.{nan_bits_above}
use Rattle.std.specs.Prelude.{Some, None}
use Rattle.bits.specs.Bits.{real_of}

module _ (n : ℕ) where
  pub above-infinity : 9218868437227405312 < n % 9223372036854775808 → nan_bits binary64 n ≡ true
  above-infinity h = nan_bits_above binary64 n ∙ lt-ltb 9218868437227405312 (n % 9223372036854775808) h

  pub not-above-infinity : n % 9223372036854775808 ≤ 9218868437227405312 → nan_bits binary64 n ≡ false
  not-above-infinity h = nan_bits_above binary64 n ∙ le-ltb 9218868437227405312 (n % 9223372036854775808) h

  pub none_here : nan_bits binary64 n ≡ true → None ≡ real_of n
  unfolding real_of
  none_here h = rw h

  pub number-here : nan_bits binary64 n ≡ false → Some (of_bits binary64 n) ≡ real_of n
  unfolding real_of
  number-here h = rw h
