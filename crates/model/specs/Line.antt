-- A line as it is printed, for every line that a scan can read (01, "The model text"); and what it is that scanning and printing undo each other.
use Rattle.std.specs.Prelude.{◌≡◌, false, List, [], ◌∷◌, ◌++◌, ℕ, ◌^◌, ◌<◌, eqb}
use Rattle.std.proofs.Math.Option.{Option, none, some}
use Rattle.answer.specs.Limits.{max_digits}
use Rattle.model.specs.Text.{comma, dash, comp_word, act_word, clk_word, row_word, kind_word, decimal, joined, guard_field, fields_after}
use Rattle.model.specs.Reading.{Got, Scan, is, got, is_digit, Entry, comp-entry, act-entry, clk-entry, row-entry, guard_of}

-- "Numbers are decimal, 1 to 5 digits"
abbrev pub Fits : ℕ → Type 0
Fits n = n < 10 ^ max_digits

abbrev pub AllFit : List ℕ → Type 0
AllFit [] = Unit {0}
AllFit (n ∷ ns) = Fits n × AllFit ns

-- numbers joined by commas: one at least
abbrev pub ListFits : List ℕ → Type 0
ListFits [] = ⊥
ListFits (n ∷ ns) = AllFit (n ∷ ns)

abbrev pub GuardFits : Option ℕ → Type 0
GuardFits none = Unit {0}
GuardFits (some x) = Fits x

-- "resets (`-`, or clocks .. joined by commas)", of a list of numbers as read
unfoldable pub list_field : List ℕ → List ℕ
list_field [] = dash ∷ []
list_field (n ∷ ns) = joined (n ∷ ns)

-- a line that was read, with its LF
unfoldable pub line_of : Entry → List ℕ
line_of (comp-entry n s) = comp_word ++ fields_after (decimal n ∷ decimal s ∷ [])
line_of (act-entry a k) = act_word ++ fields_after (decimal a ∷ kind_word k ∷ [])
line_of (clk-entry x b) = clk_word ++ fields_after (decimal x ∷ decimal b ∷ [])
line_of (row-entry s g a r t) = row_word ++ fields_after (decimal s ∷ guard_field (guard_of g) ∷ decimal a ∷ list_field r ∷ decimal t ∷ [])

-- each of its numbers has 1 to 5 digits
abbrev pub LineFits : Entry → Type 0
LineFits (comp-entry n s) = Fits n × Fits s
LineFits (act-entry a k) = Fits a
LineFits (clk-entry x b) = Fits x × Fits b
LineFits (row-entry s g a r t) = Fits s × GuardFits g × Fits a × AllFit r × Fits t

-- the bytes begin with no digit and no comma: a number, or numbers joined by commas, may end before them
abbrev pub Ends : List ℕ → Type 0
Ends [] = Unit {0}
Ends (b ∷ bs) = (is_digit b ≡ false) × (eqb b comma ≡ false)

-- any bytes
abbrev pub Any : List ℕ → Type 0
Any bs = Unit {0}

-- what is printed is scanned back, before any bytes that may stand behind it, and what is scanned is what is printed
pub record Exact {A : Type 0} (scan : List ℕ → Scan A) (print : A → List ℕ) (Good : A → Type 0) (Behind : List ℕ → Type 0) : Type 0 where
  pub printed : (x : A) (bs : List ℕ) → Good x → Behind bs → scan (print x ++ bs) ≡ got x bs
  pub scanned : (bs : List ℕ) (g : Got A) → scan bs ≡ is g → (bs ≡ print g.value ++ g.rest) × Good g.value
