-- The sample text (02, 4/13): "a line per declared clock, ascending: number, then samples, if any, parted by tabs; samples are 1 to 2^40".
use Rattle.std.specs.Prelude.{◌≡◌, true, false, cond, List, [], ◌∷◌, ◌++◌, ℕ, zero, suc, ◌+◌, ◌-◌, ◌≤◌, ◌<◌, length, get_or, eqb, leb}
use Rattle.std.proofs.Math.Option.{Option, none, some}
use Rattle.laws.specs.Sets.{has, ◌∈◌}
use Rattle.answer.specs.Limits.{max_clocks, max_ticks, max_tick_digits}
use Rattle.answer.specs.Told.{tell, Answer, answered, refused}
use Rattle.model.specs.Text.{byte0, lf, digits_of, decimal, fields_after}
use Rattle.model.specs.Reading.{Got, Scan, is, stops, got, then, the_byte, field, is_digit, more_digits, number}
use Rattle.iosa.specs.Product.{count}
use Rattle.simulation.specs.Simulate.{Supply, and_then}

-- ---- reading
-- "samples are 1 to 2^40"
abbrev pub ticking : Got ℕ → List ℕ → Scan ℕ
ticking g bs = cond (leb g.value max_ticks) (is g) (stops bs)

-- one sample: its first digit is none of zero, and at most 12 follow
unfoldable pub sample_at : List ℕ → Scan ℕ
sample_at [] = stops []
sample_at (b ∷ bs) = cond (is_digit b) (cond (eqb b byte0) (stops (b ∷ bs)) (ticking (more_digits (max_tick_digits - 1) (b - byte0) bs) (b ∷ bs))) (stops (b ∷ bs))

-- the line ends, or else a sample stands behind a tab; no more than k of them
unfoldable pub samples_at : ℕ → List ℕ → Scan (List ℕ)
samples_at zero bs = then (the_byte lf bs) (λ _ cs. got [] cs)
samples_at (suc k) bs = elim (the_byte lf bs) [
  | is g ↦ got [] g.rest
  | stops cs ↦ then (field sample_at bs) (λ n ds. then (samples_at k ds) (λ ns es. got (n ∷ ns) es))
]

-- the line of clock x, with its LF
unfoldable pub line_at : ℕ → List ℕ → Scan (List ℕ)
line_at x bs = then (number bs) (λ y cs. cond (eqb y x) (samples_at (length cs) cs) (stops bs))

-- n clocks from x on, the declared ones in d, from line k on: a list for each clock. 40 "malformed list (first bad line, or one past the last)"
unfoldable pub lists_from : ℕ → ℕ → ℕ → ℕ → List ℕ → Answer (List (List ℕ))
lists_from d zero x k [] = answered []
lists_from d zero x k (b ∷ bs) = refused (tell 40 (k ∷ []))
lists_from d (suc n) x k bs = elim (has d x) [
  | false ↦ and_then (lists_from d n (suc x) k bs) (λ ls. answered ([] ∷ ls))
  | true ↦ elim (line_at x bs) [
    | is g ↦ and_then (lists_from d n (suc x) (suc k) g.rest) (λ ls. answered (g.value ∷ ls))
    | stops cs ↦ refused (tell 40 (k ∷ []))
  ]
]

-- 64 lists, one for each clock, those of undeclared clocks empty
unfoldable pub samples_of : ℕ → List ℕ → Answer (List (List ℕ))
samples_of d t = lists_from d max_clocks 0 1 t

-- the j-th sample of a list
unfoldable pub nth : List ℕ → ℕ → Option ℕ
nth [] j = none
nth (n ∷ ns) zero = some n
nth (n ∷ ns) (suc j) = nth ns j

-- "the next of its own list"; 41 "a list ran out"
abbrev pub recorded : List (List ℕ) → Supply
recorded ls = record { sample = λ x j. nth (get_or ls x []) j; ran_out = 41 }

-- ---- what it is to be such a text
abbrev pub texts : List ℕ → List (List ℕ)
texts [] = []
texts (n ∷ ns) = digits_of max_tick_digits n ∷ texts ns

unfoldable pub line_of : ℕ → List ℕ → List ℕ
line_of x l = decimal x ++ fields_after (texts l)

-- the lines of the declared clocks from x on
unfoldable pub lines_from : ℕ → ℕ → List (List ℕ) → List ℕ
lines_from d x [] = []
lines_from d x (l ∷ ls) = cond (has d x) (line_of x l) [] ++ lines_from d (suc x) ls

abbrev pub Ticks : ℕ → Type 0
Ticks n = (1 ≤ n) × (n ≤ max_ticks)

abbrev pub AllTicks : List ℕ → Type 0
AllTicks [] = Unit {0}
AllTicks (n ∷ ns) = Ticks n × AllTicks ns

-- lists of the clocks from x on: all samples are in range, and clocks that are not declared have none
abbrev pub GoodFrom : ℕ → ℕ → List (List ℕ) → Type 0
GoodFrom d x [] = Unit {0}
GoodFrom d x (l ∷ ls) = AllTicks l × (has d x ≡ false → l ≡ []) × GoodFrom d (suc x) ls

-- these bytes are the lines of the lists ls, for n clocks from x on
pub record LinesOf (d n x : ℕ) (bs : List ℕ) (ls : List (List ℕ)) : Type 0 where
  pub count : length ls ≡ n
  pub good : GoodFrom d x ls
  pub text : bs ≡ lines_from d x ls

-- "first bad line, or one past the last": so many good lines stand before it. It is not the line of the next declared clock, or there is none left
pub data BadFrom (d n x : ℕ) (bs : List ℕ) : ℕ → Type 0 where
  no_line : (ls : List (List ℕ)) (rest : List ℕ) → length ls < n → GoodFrom d x ls → bs ≡ lines_from d x ls ++ rest → x + length ls ∈ d
      → ((l cs : List ℕ) → AllTicks l → rest ≡ line_of (x + length ls) l ++ cs → ⊥) → BadFrom d n x bs (count lf (lines_from d x ls))
  line-too-many : (ls : List (List ℕ)) (b : ℕ) (rest : List ℕ) → length ls ≡ n → GoodFrom d x ls → bs ≡ lines_from d x ls ++ (b ∷ rest)
      → BadFrom d n x bs (count lf (lines_from d x ls))

-- what the text of the declared clocks d is: 64 lists, or 40 and its line
pub data SamplesAnswer (d : ℕ) (t : List ℕ) : Answer (List (List ℕ)) → Type 0 where
  are : {ls : List (List ℕ)} → LinesOf d max_clocks 0 t ls → SamplesAnswer d t (answered ls)
  is40 : {j : ℕ} → BadFrom d max_clocks 0 t j → SamplesAnswer d t (refused (tell 40 (suc j ∷ [])))
