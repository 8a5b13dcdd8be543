-- Draws by hand: the ends and the numbers by their bits, and the ticks.
use Rattle.std.specs.Prelude.{◌≡◌, ℕ, Bool, true, false, List, [], ◌∷◌, map, Float}
use Rattle.std.specs.Float.{binary64}
use Rattle.std.specs.Float.Ieee.{of_bits, to_unsigned, lt, le, add, sub, mul}
use Rattle.draw.specs.declared.Law.{Law}
use Rattle.draw.specs.declared.Law.TheVariants.{Uniform, Mixture}
use Rattle.draw.specs.Draw.{unit, value, held, ticks, drawn, within, ranged, weighed, lawful}

abbrev float : ℕ → Float
float n = of_bits binary64 n

-- ends by their bits
abbrev pub uni : ℕ → ℕ → Law
uni a b = Uniform (float a) (float b)

abbrev pub mix : ℕ → ℕ → ℕ → ℕ → ℕ → Law
mix w a b c d = Mixture (float w) (float a) (float b) (float c) (float d)

pub record Case : Type 0 where
  pub law : Law
  pub first : ℕ
  pub second : ℕ
  pub ticks : ℕ

abbrev pub D : Law → ℕ → ℕ → ℕ → Case
D l m n k = record { law = l; first = m; second = n; ticks = k }

-- 1.0 to 2.0; 0.5, 5.0 to 5.0 and 9.0 to 9.0
abbrev one_two : Law
one_two = uni 0x3ff0000000000000 0x4000000000000000

abbrev five_nine : Law
five_nine = mix 0x3fe0000000000000 0x4014000000000000 0x4014000000000000 0x4022000000000000 0x4022000000000000

unfoldable pub draw_cases : List Case
draw_cases =
    D one_two 0x0000000000000000 0 1
    -- a tie, rounded to the even one: the upper end; and the number below it
    ∷ D one_two 0xffffffffffffffff 0 2
    ∷ D one_two 0xfffffffffffff7ff 0 1
    -- the lower 11 bits do not count
    ∷ D (uni 0x3ff0000000000000 0x408f400000000000) 0x00000000000007ff 0 1
    -- a whole number below the lower end
    ∷ D (uni 0x3ff8000000000000 0x3ff8000000000000) 0x000000000000004d 0 1
    -- the whole span, and up to 2^40
    ∷ D (uni 0x3ff0000000000000 0x4270000000000000) 0xffffffffffffffff 0 1099511627775
    ∷ D (uni 0x426fffffffffe000 0x4270000000000000) 0xffffffffffffffff 0 1099511627776
    -- one rounding fewer would give 384
    ∷ D (uni 0x3ff07b3f51ee8646 0x4078000000000000) 0xfffffffffffff800 0 383
    -- below the weight the first range, at the weight the second
    ∷ D five_nine 0x7fffffffffffffff 0 5
    ∷ D five_nine 0x8000000000000000 0 9
    ∷ []

-- distributions by their bits, and whether 49 lets them pass
pub record LawCase : Type 0 where
  pub law : Law
  pub passes : Bool

abbrev pub L : Law → Bool → LawCase
L l b = record { law = l; passes = b }

-- a weight before two good ranges
abbrev weight : ℕ → Law
weight w = mix w 0x3ff0000000000000 0x4000000000000000 0x3ff0000000000000 0x4000000000000000

unfoldable pub law_cases : List LawCase
law_cases =
    -- equal ends; 1.0 to 2^40; ends out of order
    L (uni 0x3ff8000000000000 0x3ff8000000000000) true
    ∷ L (uni 0x3ff0000000000000 0x4270000000000000) true
    ∷ L (uni 0x4000000000000000 0x3ff0000000000000) false
    -- below 1: the float before it, 0.0, -0.0, a subnormal, -1.0
    ∷ L (uni 0x3fefffffffffffff 0x4000000000000000) false
    ∷ L (uni 0x0000000000000000 0x4000000000000000) false
    ∷ L (uni 0x8000000000000000 0x4000000000000000) false
    ∷ L (uni 0x0000000000000001 0x4000000000000000) false
    ∷ L (uni 0xbff0000000000000 0x4000000000000000) false
    -- above 2^40: the float behind it, an infinity; NaNs
    ∷ L (uni 0x3ff0000000000000 0x4270000000000001) false
    ∷ L (uni 0x3ff0000000000000 0x7ff0000000000000) false
    ∷ L (uni 0x3ff0000000000000 0x7ff8000000000000) false
    ∷ L (uni 0xfff0000000000001 0x4000000000000000) false
    -- weights: 0.0, -0.0, a subnormal, 1.0; below 0, above 1, an infinity, a NaN
    ∷ L (weight 0x0000000000000000) true
    ∷ L (weight 0x8000000000000000) true
    ∷ L (weight 0x0000000000000001) true
    ∷ L (weight 0x3ff0000000000000) true
    ∷ L (weight 0x8000000000000001) false
    ∷ L (weight 0x3ff0000000000001) false
    ∷ L (weight 0x7ff0000000000000) false
    ∷ L (weight 0x7ff8000000000000) false
    ∷ []

unfoldable pub ticks_of : Case → ℕ
unfolding drawn ticks value held unit to_unsigned lt add sub mul of_bits
ticks_of c = drawn c.law c.first c.second

unfoldable pub passes_of : LawCase → Bool
unfolding lawful ranged weighed within le of_bits
passes_of c = lawful c.law

-- every case is as it says
abbrev pub HoldDraws : List Case → Type 0
HoldDraws cs = map ticks_of cs ≡ map (λ c. c.ticks) cs

abbrev pub HoldLaws : List LawCase → Type 0
HoldLaws cs = map passes_of cs ≡ map (λ c. c.passes) cs
