-- Where the first value of a line stands that may not be there, as the code looks for it: by the line's numbers, how wide they are, and the bytes of its resets.
use Rattle.std.specs.Prelude.{Bool, false, ◌&&◌, not, cond, List, [], ◌∷◌, ℕ, zero, suc, ◌+◌, length, drop, eqb, ltb, leb}
use Rattle.laws.specs.Sets.{has}
use Rattle.sets.specs.Members.{word_bits}
use Rattle.answer.specs.Limits.{max_states}
use Rattle.model.specs.Text.{comma, dash, decimal}
use Rattle.model.specs.Reading.{is, stops, number, the_byte, stop_column, Value, states-value, state-value, action-value, clock-value, set_value, dash-value}
use Rattle.fields.specs.declared.Guard.{Guard}
use Rattle.fields.specs.declared.Guard.TheVariants as OfGuard
use Rattle.lines.specs.declared.Line.{Line}
use Rattle.lines.specs.declared.Line.TheVariants.{Comp, Act, Clk, Row}
use Rattle.columns.specs.declared.Allowed.{Allowed}

-- a number is a member of a set of 64 bits
abbrev pub member_of : ℕ → ℕ → Bool
member_of s n = cond (ltb n word_bits) (has s n) false

-- a value may not be
abbrev pub beyond : Allowed → Value → Bool
beyond a (states-value n) = not (leb 1 n && leb n max_states)
beyond a (state-value s) = not (ltb s a.states)
beyond a (action-value x) = not (member_of a.acts x)
beyond a (clock-value x) = not (member_of a.clocks x)
beyond a (set_value b) = not (leb b 1)
beyond a dash-value = false

abbrev pub guard_out : ℕ → Guard → Bool
guard_out s OfGuard.Dash = false
guard_out s (OfGuard.Clock x) = not (member_of s x)

abbrev pub wide_guard : Guard → ℕ
wide_guard OfGuard.Dash = 1
wide_guard (OfGuard.Clock x) = length (decimal x)

-- the bytes behind a number and the byte after it, which go on where that is a comma
abbrev pub behind_one : (List ℕ → List ℕ) → List ℕ → List ℕ
behind_one f [] = []
behind_one f (b ∷ bs) = cond (eqb b comma) (f bs) bs

-- numbers joined by commas: the bytes from the first that is no member, or behind the byte after the last; no more than k
unfoldable pub numbers_out : ℕ → ℕ → List ℕ → List ℕ
numbers_out s zero bs = bs
numbers_out s (suc k) bs = elim (number bs) [ stops cs ↦ bs | is g ↦ cond (member_of s g.value) (behind_one (numbers_out s k) g.rest) bs ]

-- the same of a resets field, which may be `-`
unfoldable pub resets_out : ℕ → List ℕ → List ℕ
resets_out s bs = elim (the_byte dash bs) [ is g ↦ drop 2 bs | stops cs ↦ numbers_out s (length bs) bs ]

-- how many bytes of a row stand before its resets
abbrev pub before_resets : ℕ → Guard → ℕ → ℕ
before_resets s g x = 6 + length (decimal s) + 1 + wide_guard g + length (decimal x)

unfoldable pub row_column : List ℕ → ℕ → Allowed → ℕ → Guard → ℕ → ℕ
row_column t at a s g x =
    cond (ltb s a.states)
    (cond (guard_out a.clocks g) (6 + length (decimal s))
    (cond (member_of a.acts x) (stop_column (drop at t) (resets_out a.clocks (drop (at + before_resets s g x) t))) (6 + length (decimal s) + 1 + wide_guard g)))
    5

abbrev pub value_column : List ℕ → ℕ → Allowed → Line → ℕ
value_column t at a (Comp n s) = cond (leb 1 n && leb n max_states) (7 + length (decimal n)) 6
value_column t at a (Act x k) = 5
value_column t at a (Clk x b) = cond (member_of a.clocks x) (6 + length (decimal x)) 5
value_column t at a (Row s g x r u) = row_column t at a s g x
