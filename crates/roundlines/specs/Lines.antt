-- What the program `simulate` prints (02, 4/13): a line for each round where that is asked for, then how it ended.
use Rattle.std.specs.Prelude.{Bool, cond, List, [], ◌∷◌, ◌++◌, ℕ, ℤ, pos, nat_abs}
use Rattle.std.specs.Int.Signed.{lt_z}
use Rattle.laws.specs.Sets.{has}
use Rattle.laws.specs.Fold.{spread}
use Rattle.answer.specs.Limits.{max_clocks}
use Rattle.model.specs.Text.{dash, digits_of, decimal, joined, guard_field, set_field, fields_after}
use Rattle.iosa.specs.TimedExactly.{value_of}

-- ---- fields
-- the digits of 2^64
abbrev pub long_digits : ℕ
long_digits = 20

-- a number of any length, with no needless zero in front
unfoldable pub long : ℕ → List ℕ
long n = digits_of long_digits n

-- behind `-` where it is below zero
unfoldable pub signed : Bool → ℕ → List ℕ
signed below n = cond below (dash ∷ long n) (long n)

-- ---- how it ended
-- `done`, `clock`
abbrev pub done_word : List ℕ
done_word = 100 ∷ 111 ∷ 110 ∷ 101 ∷ []

abbrev pub clock_word : List ℕ
clock_word = 99 ∷ 108 ∷ 111 ∷ 99 ∷ 107 ∷ []

-- "later rounds done and state"
unfoldable pub done_line : ℕ → List ℕ → List ℕ
done_line k s = done_word ++ fields_after (decimal k ∷ joined s ∷ [])

-- "the declared clocks", d
unfoldable pub clock_with : ℕ → List ℕ → List ℕ
clock_with x value = clock_word ++ fields_after (decimal x ∷ value ∷ [])

abbrev pub clock_line : ℕ → ℤ → List ℕ
clock_line x z = clock_with x (signed (lt_z z (pos 0)) (nat_abs z))

unfoldable pub clock_part : ℕ → List ℤ → ℕ → List ℕ
clock_part d vs x = cond (has d x) (clock_line x (value_of vs x)) []

unfoldable pub clock_lines : ℕ → List ℤ → List ℕ
clock_lines d vs = spread (clock_part d vs) 0 max_clocks

unfoldable pub ended_text : ℕ → List ℕ → ℕ → List ℤ → List ℕ
ended_text k s d vs = done_line k s ++ clock_lines d vs

-- ---- a round
-- round, ticks since the last, action or `-` where none fired (g is 0 then, and else the action and 1)
unfoldable pub fired_of : ℕ → ℕ → ℕ → List ℕ
fired_of k v g = decimal k ++ ((9 ∷ []) ++ (long v ++ ((9 ∷ []) ++ guard_field g)))

-- state, clocks set or reset
unfoldable pub stood_of : List ℕ → ℕ → List ℕ
stood_of s w = fields_after (joined s ∷ set_field w ∷ [])

unfoldable pub round_line : ℕ → ℕ → ℕ → List ℕ → ℕ → List ℕ
round_line k v g s w = fired_of k v g ++ stood_of s w
