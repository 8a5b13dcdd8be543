-- The rule by which a clock's run time is drawn (02, 13/13), in the kit's account of IEEE 754's binary64 (`lib.Ieee`).
use Rattle.std.specs.Prelude.{ℕ, ◌+◌, ◌*◌, ◌/◌, ◌%◌, ◌^◌, ◌<◌, ◌≤◌, Bool, false, cond, ◌&&◌, pos, Float}
use Rattle.std.specs.Float.{fin, binary64}
use Rattle.std.specs.Float.Ieee.{round, add, sub, mul, lt, le, to_unsigned}
use Rattle.std.specs.Float.Ieee.Positive.{num, den}
use Rattle.answer.specs.Limits.{max_ticks}
use Rattle.draw.specs.declared.Law.{Law}
use Rattle.draw.specs.declared.Law.TheVariants.{Uniform, Mixture}

-- 0, 1 and 2^40
abbrev pub nought : Float
nought = fin false 0 (pos 0)

abbrev pub one : Float
one = fin false 1 (pos 0)

abbrev pub most : Float
most = fin false 1 (pos 40)

-- "64-bit numbers that the caller lends: the top 53 bits"; of 64 bits the lower 11 are left out, and there are no others
abbrev pub top_bits : ℕ → ℕ
top_bits n = n / 2048 % 2 ^ 53

-- "the top 53 bits, divided by 2^53, are u"
unfoldable pub unit : ℕ → Float
unit n = round binary64 false (top_bits n) (2 ^ 53)

-- "The value is lower + u × (upper − lower), each operation rounded once"
unfoldable pub value : Float → Float → Float → Float
value lower upper u = add binary64 lower (mul binary64 u (sub binary64 upper lower))

-- "then held within the two ends"
unfoldable pub held : Float → Float → Float → Float
held lower upper v = cond (lt v lower) lower (cond (lt upper v) upper v)

abbrev pub held_of : Float → Float → ℕ → Float
held_of lower upper n = held lower upper (value lower upper (unit n))

-- "the ticks are the largest whole number not above it"
unfoldable pub ticks : Float → Float → ℕ → ℕ
ticks lower upper n = to_unsigned 64 (held_of lower upper n)

-- a draw: of a range by one number; "`mix` uses one number to pick the first range when u is below the weight, and a second for the range"
unfoldable pub drawn : Law → ℕ → ℕ → ℕ
drawn (Uniform a b) m n = ticks a b m
drawn (Mixture w a b c d) m n = cond (lt (unit m) w) (ticks a b n) (ticks c d n)

-- the upper end of the range that is drawn from
unfoldable pub end_of : Law → ℕ → Float
end_of (Uniform a b) m = b
end_of (Mixture w a b c d) m = cond (lt (unit m) w) b d

-- ---- what 49 asks of the numbers of a line: every test fails of a NaN
-- "an end not within 1 to 2^40"
unfoldable pub within : Float → Bool
within x = le one x && le x most

-- "ends out of order"
unfoldable pub ranged : Float → Float → Bool
ranged lower upper = within lower && within upper && le lower upper

-- "a weight not within 0 to 1"
unfoldable pub weighed : Float → Bool
weighed w = le nought w && le w one

unfoldable pub lawful : Law → Bool
lawful (Uniform a b) = ranged a b
lawful (Mixture w a b c d) = weighed w && ranged a b && ranged c d

-- ---- what is proved of a draw
-- the whole number k is not above x and is the largest such, for an x that is finite and not below 0
pub record Floor (x : Float) (k : ℕ) : Type 0 where
  pub not-above : k * den x ≤ num x
  pub largest : num x < (k + 1) * den x

-- "lie between 1 and the upper end", and so are what a clock may have
pub record Between (upper : Float) (k : ℕ) : Type 0 where
  pub one-at-least : 1 ≤ k
  pub not-above-the-end : k * den upper ≤ num upper
  pub in-ticks : k ≤ max_ticks
