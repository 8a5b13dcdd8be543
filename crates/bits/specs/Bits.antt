-- Numbers by the bits of their binary64 (02, 13/13), in the kit's account of IEEE 754 (`lib.Ieee`).
use Rattle.std.specs.Prelude.{ℕ, cond, Option, Some, None, Float}
use Rattle.std.specs.Float.{binary64}
use Rattle.std.specs.Float.Ieee.{of_bits, nan_bits}

-- the number that 64 bits stand for; a NaN is none
unfoldable pub real_of : ℕ → Option Float
real_of n = cond (nan_bits binary64 n) None (Some (of_bits binary64 n))
