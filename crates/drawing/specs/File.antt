-- The file of distributions (02, 13/13): "a tabbed line per declared clock, ascending: number, then `uni` with lower and upper end, or `mix` with a weight and
-- two such ranges, all binary64, as 16 lower-case hexadecimal digits of their bits".
use Rattle.std.specs.Prelude.{◌≡◌, Bool, true, false, ◌&&◌, ◌||◌, not, cond, List, [], ◌∷◌, ◌++◌, ℕ, zero, suc, ◌+◌, ◌*◌, ◌-◌, ◌/◌, ◌%◌, length, T, eqb, ltb, leb, Float}
use Rattle.std.proofs.Math.Option.{Option, none, some}
use Rattle.std.specs.Float.{binary64}
use Rattle.std.specs.Float.Ieee.{of_bits, to_bits, nan_bits, fits, is_nan}
use Rattle.laws.specs.Sets.{has}
use Rattle.answer.specs.Limits.{max_clocks}
use Rattle.answer.specs.Told.{tell, Answer, answered, refused}
use Rattle.model.specs.Text.{byte0, lf, decimal, fields_after}
use Rattle.model.specs.Reading.{Scan, is, stops, got, then, exactly, the_byte, field, is_digit, number}
use Rattle.simulation.specs.Simulate.{and_then}
use Rattle.draw.specs.declared.Law.{Law}
use Rattle.draw.specs.declared.Law.TheVariants.{Uniform, Mixture}
use Rattle.draw.specs.Draw.{lawful}

-- ---- "16 lower-case hexadecimal digits"
abbrev pub byte_a : ℕ
byte_a = 97

abbrev pub hex_digits : ℕ
hex_digits = 16

abbrev pub is_letter : ℕ → Bool
is_letter b = leb byte_a b && ltb b (byte_a + 6)

-- one digit more of a number that is n so far
unfoldable pub hex_next : ℕ → List ℕ → Scan ℕ
hex_next n [] = stops []
hex_next n (b ∷ bs) = cond (is_digit b) (got (n * 16 + (b - byte0)) bs) (cond (is_letter b) (got (n * 16 + (b - byte_a + 10)) bs) (stops (b ∷ bs)))

-- k digits, the highest first
unfoldable pub hex_at : ℕ → List ℕ → Scan ℕ
hex_at zero bs = got 0 bs
hex_at (suc k) bs = then (hex_at k bs) hex_next

unfoldable pub hex_byte : ℕ → ℕ
hex_byte d = cond (ltb d 10) (byte0 + d) (byte_a + (d - 10))

unfoldable pub hex_of : ℕ → ℕ → List ℕ
hex_of zero n = []
hex_of (suc k) n = hex_of k (n / 16) ++ (hex_byte (n % 16) ∷ [])

-- ---- a number by its bits; a NaN is none
unfoldable pub real_at : List ℕ → Scan Float
real_at bs = then (hex_at hex_digits bs) (λ n cs. cond (nan_bits binary64 n) (stops bs) (got (of_bits binary64 n) cs))

unfoldable pub real_text : Float → List ℕ
real_text x = hex_of hex_digits (to_bits binary64 x)

-- x is a number of binary64, or an infinity
abbrev pub Real : Float → Type 0
Real x = T (fits binary64 x) × T (not (is_nan x))

-- ---- reading a line
pub record Range : Type 0 where
  pub lower : Float
  pub upper : Float

-- "lower and upper end"
unfoldable pub range_at : List ℕ → Scan Range
range_at bs = then (field real_at bs) (λ a cs. then (field real_at cs) (λ b ds. got (record { lower = a; upper = b }) ds))

-- the line ends in LF
abbrev pub ended : Law → List ℕ → Scan Law
ended l bs = then (the_byte lf bs) (λ _ cs. got l cs)

-- `uni`, `mix`
abbrev pub uni_word : List ℕ
uni_word = 117 ∷ 110 ∷ 105 ∷ []

abbrev pub mix_word : List ℕ
mix_word = 109 ∷ 105 ∷ 120 ∷ []

-- behind `uni`
unfoldable pub uni_at : List ℕ → Scan Law
uni_at bs = then (range_at bs) (λ r cs. ended (Uniform r.lower r.upper) cs)

-- behind `mix`: "a weight and two such ranges"
unfoldable pub mix_at : List ℕ → Scan Law
mix_at bs = then (field real_at bs) (λ w cs.
    then (range_at cs) (λ r ds. then (range_at ds) (λ q es. ended (Mixture w r.lower r.upper q.lower q.upper) es)))

-- one word or the other
unfoldable pub form_at : List ℕ → Scan Law
form_at bs = elim (exactly uni_word bs) [ is g ↦ uni_at g.rest | stops cs ↦ then (exactly mix_word bs) (λ _ ds. mix_at ds) ]

-- what stands behind a clock's number; 49 too for "an end not within 1 to 2^40, ends out of order, or a weight not within 0 to 1"
unfoldable pub law_at : List ℕ → Scan Law
law_at bs = then (field form_at bs) (λ l cs. cond (lawful l) (got l cs) (stops bs))

-- the line of clock x, with its LF
unfoldable pub line_at : ℕ → List ℕ → Scan Law
line_at x bs = then (number bs) (λ y cs. cond (eqb y x) (law_at cs) (stops bs))

-- n clocks from x on, the declared ones in d, from line k on: a distribution for each declared clock. 49, "placed as 40": first bad line, or one past the last
unfoldable pub laws_from : ℕ → ℕ → ℕ → ℕ → List ℕ → Answer (List (Option Law))
laws_from d zero x k [] = answered []
laws_from d zero x k (b ∷ bs) = refused (tell 49 (k ∷ []))
laws_from d (suc n) x k bs = elim (has d x) [
  | false ↦ and_then (laws_from d n (suc x) k bs) (λ ls. answered (none ∷ ls))
  | true ↦ elim (line_at x bs) [
    | is g ↦ and_then (laws_from d n (suc x) (suc k) g.rest) (λ ls. answered (some g.value ∷ ls))
    | stops cs ↦ refused (tell 49 (k ∷ []))
  ]
]

-- 64 of them, one for each clock, none for those that are not declared
unfoldable pub laws_of : ℕ → List ℕ → Answer (List (Option Law))
laws_of d t = laws_from d max_clocks 0 1 t

-- ---- what it is to be such a file
abbrev pub form_fields : Law → List (List ℕ)
form_fields (Uniform a b) = uni_word ∷ real_text a ∷ real_text b ∷ []
form_fields (Mixture w a b c d) = mix_word ∷ real_text w ∷ real_text a ∷ real_text b ∷ real_text c ∷ real_text d ∷ []

unfoldable pub line_of : ℕ → Law → List ℕ
line_of x l = decimal x ++ fields_after (form_fields l)

abbrev pub Reals : Law → Type 0
Reals (Uniform a b) = Real a × Real b
Reals (Mixture w a b c d) = Real w × Real a × Real b × Real c × Real d

-- a distribution that a line may give
pub record Good (l : Law) : Type 0 where
  pub reals : Reals l
  pub within : T (lawful l)

-- the lines of the clocks from x on
unfoldable pub part_of : ℕ → Option Law → List ℕ
part_of x none = []
part_of x (some l) = line_of x l

unfoldable pub lines_from : ℕ → List (Option Law) → List ℕ
lines_from x [] = []
lines_from x (o ∷ os) = part_of x o ++ lines_from (suc x) os

-- "per declared clock"
abbrev pub GoodAt : ℕ → ℕ → Option Law → Type 0
GoodAt d x none = has d x ≡ false
GoodAt d x (some l) = (has d x ≡ true) × Good l

abbrev pub GoodFrom : ℕ → ℕ → List (Option Law) → Type 0
GoodFrom d x [] = Unit {0}
GoodFrom d x (o ∷ os) = GoodAt d x o × GoodFrom d (suc x) os

-- these bytes are the lines of the distributions ls, for n clocks from x on
pub record LinesOf (d n x : ℕ) (bs : List ℕ) (ls : List (Option Law)) : Type 0 where
  pub count : length ls ≡ n
  pub good : GoodFrom d x ls
  pub text : bs ≡ lines_from x ls

-- "first bad line, or one past the last", after so many good ones, of n clocks from x on
pub data BadFrom (d : ℕ) : ℕ → ℕ → List ℕ → ℕ → Type 0 where
  -- no clock is left, and a byte stands there
  line-too-many : {x b : ℕ} {bs : List ℕ} → BadFrom d 0 x (b ∷ bs) 0
  -- clock x is declared, and no line of it stands there
  no_line : {n x : ℕ} {bs : List ℕ} → has d x ≡ true → ((l : Law) (cs : List ℕ) → Good l → bs ≡ line_of x l ++ cs → ⊥) → BadFrom d (suc n) x bs 0
  -- it is behind clock x
  past-none : {n x j : ℕ} {bs : List ℕ} → has d x ≡ false → BadFrom d n (suc x) bs j → BadFrom d (suc n) x bs j
  past-line : {n x j : ℕ} {cs : List ℕ} (l : Law) → has d x ≡ true → Good l → BadFrom d n (suc x) cs j → BadFrom d (suc n) x (line_of x l ++ cs) (suc j)

-- what the file of the declared clocks d is: a distribution for each, or 49 and its line
pub data FileAnswer (d : ℕ) (t : List ℕ) : Answer (List (Option Law)) → Type 0 where
  are : {ls : List (Option Law)} → LinesOf d max_clocks 0 t ls → FileAnswer d t (answered ls)
  is49 : {j : ℕ} → BadFrom d max_clocks 0 t j → FileAnswer d t (refused (tell 49 (suc j ∷ [])))
