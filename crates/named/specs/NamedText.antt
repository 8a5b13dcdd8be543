-- The second form of a model's text (02, 7/13): "first line `form`, tab, `2` .., then a `name` line per action declared anywhere: number, ascending, and a name .. After that
-- action fields hold names". As it is printed, and as a line of it is scanned; only a line of good shape is judged.
use Rattle.std.specs.Prelude.{◌≡◌, List, [], ◌∷◌, ◌++◌, Bool, true, false, ◌&&◌, ◌||◌, cond, ℕ, zero, suc, length, eqb, leb}
use Rattle.std.proofs.Math.Option.{Option, none, some}
use Rattle.laws.specs.Sets.{has, ◌∪◌, only}
use Rattle.laws.specs.Fold.{spread}
use Rattle.laws.specs.Search.{least}
use Rattle.answer.specs.Limits.{max_actions, max_clocks}
use Rattle.model.specs.Model.{Row, Comp, Model, acts}
use Rattle.model.specs.Text.{tab, lf, act_word, row_word, Kind, kind_word, kind_of, decimal, guard_field, clocks_of, fields_after}
use Rattle.model.specs.Reading.{Got, Scan, is, stops, got, then, shorter, furthest, exactly, the_byte, number, guard_or_dash, numbers_or_dash, kind, field, guard_of, Entry, comp-entry, act-entry, clk-entry, row-entry, entry}
use Rattle.model.specs.Line.{Fits, AllFit, GuardFits, list_field, line_of, LineFits}

-- ---- words and names
-- `form`, `name`
abbrev pub form_word : List ℕ
form_word = 102 ∷ 111 ∷ 114 ∷ 109 ∷ []

abbrev pub name_word : List ℕ
name_word = 110 ∷ 97 ∷ 109 ∷ 101 ∷ []

-- what stands behind `form`: tab, `2`, LF
abbrev pub form_rest : List ℕ
form_rest = tab ∷ 50 ∷ lf ∷ []

-- "first line `form`, tab, `2`"
abbrev pub form_line : List ℕ
form_line = form_word ++ form_rest

-- a name is its bytes
abbrev pub Name : Type 0
Name = List ℕ

-- "lower-case letters or digits"
abbrev pub is_letter : ℕ → Bool
is_letter b = leb 97 b && leb b 122

abbrev pub is_letter_or_digit : ℕ → Bool
is_letter_or_digit b = is_letter b || (leb 48 b && leb b 57)

unfoldable pub letters_or_digits : Name → Bool
letters_or_digits [] = true
letters_or_digits (b ∷ bs) = is_letter_or_digit b && letters_or_digits bs

-- "1 to 16 lower-case letters or digits that starts with a letter"
abbrev pub max_name : ℕ
max_name = 16

unfoldable pub good_name : Name → Bool
good_name [] = false
good_name (b ∷ bs) = is_letter b && (leb (length (b ∷ bs)) max_name && letters_or_digits bs)

unfoldable pub same_name : Name → Name → Bool
same_name [] [] = true
same_name [] (b ∷ w) = false
same_name (a ∷ v) [] = false
same_name (a ∷ v) (b ∷ w) = eqb a b && same_name v w

-- ---- the sheet: its `name` lines, the last one first
pub record NameLine : Type 0 where
  pub number : ℕ
  pub name : Name

abbrev pub Sheet : Type 0
Sheet = List NameLine

-- the name of an action, if it has one
unfoldable pub name_of : Sheet → ℕ → Option Name
name_of [] a = none
name_of (e ∷ sheet) a = cond (eqb e.number a) (some e.name) (name_of sheet a)

abbrev pub is_named : Name → Option Name → Bool
is_named w none = false
is_named w (some v) = same_name v w

-- the action of a name, the lowest that has it
unfoldable pub number_of : Sheet → Name → Option ℕ
number_of sheet w = least (λ a. is_named w (name_of sheet a)) max_actions

-- ---- as it is printed
unfoldable pub name_line : NameLine → List ℕ
name_line e = name_word ++ fields_after (decimal e.number ∷ e.name ∷ [])

unfoldable pub sheet_text : Sheet → List ℕ
sheet_text [] = []
sheet_text (e ∷ sheet) = sheet_text sheet ++ name_line e

-- an action field by the sheet; nothing where the action has no name
abbrev pub bytes_of : Option Name → List ℕ
bytes_of none = []
bytes_of (some w) = w

abbrev pub name_field : Sheet → ℕ → List ℕ
name_field sheet a = bytes_of (name_of sheet a)

-- the lines of a model, in their order (01, "The model text"): "Lines belong to the last `comp`: first its `act` lines, then `clk`, then `row`"
abbrev pub guard_read : ℕ → Option ℕ
guard_read zero = none
guard_read (suc x) = some x

abbrev pub act_part : Comp → ℕ → List Entry
act_part c a = cond (has (acts c) a) (act-entry a (kind_of c a) ∷ []) []

abbrev pub clk_part : Comp → ℕ → List Entry
clk_part c x = cond (has c.clocks x) (clk-entry x (cond (has c.started x) 1 0) ∷ []) []

unfoldable pub row_entries : List Row → List Entry
row_entries [] = []
row_entries (r ∷ rs) = row-entry r.from (guard_read r.guard) r.action (clocks_of r.resets) r.target ∷ row_entries rs

unfoldable pub comp_entries : Comp → List Entry
comp_entries c = comp-entry c.states c.start ∷ spread (act_part c) 0 max_actions ++ spread (clk_part c) 0 max_clocks ++ row_entries c.rows

unfoldable pub entries_of : Model → List Entry
entries_of [] = []
entries_of (c ∷ cs) = comp_entries c ++ entries_of cs

-- lines in the old form, one after the other
unfoldable pub lines_text : List Entry → List ℕ
lines_text [] = []
lines_text (e ∷ es) = line_of e ++ lines_text es

-- "After that action fields hold names": a line in the new form
unfoldable pub line_named : Sheet → Entry → List ℕ
line_named sheet (comp-entry n s) = line_of (comp-entry n s)
line_named sheet (act-entry a k) = act_word ++ fields_after (name_field sheet a ∷ kind_word k ∷ [])
line_named sheet (clk-entry x b) = line_of (clk-entry x b)
line_named sheet (row-entry s g a r t) = row_word ++ fields_after (decimal s ∷ guard_field (guard_of g) ∷ name_field sheet a ∷ list_field r ∷ decimal t ∷ [])

unfoldable pub lines_named : Sheet → List Entry → List ℕ
lines_named sheet [] = []
lines_named sheet (e ∷ es) = line_named sheet e ++ lines_named sheet es

-- a whole text of the second form, by its sheet and the lines behind it
abbrev pub text_by : Sheet → List Entry → List ℕ
text_by sheet es = form_line ++ sheet_text sheet ++ lines_named sheet es

unfoldable pub text_named : Sheet → Model → List ℕ
text_named sheet m = text_by sheet (entries_of m)

-- the actions that some `act` line declares, as a set
abbrev pub declared_by : Entry → ℕ
declared_by (comp-entry n s) = 0
declared_by (act-entry a k) = only a
declared_by (clk-entry x b) = 0
declared_by (row-entry s g a r t) = 0

unfoldable pub declared_in : List Entry → ℕ
declared_in [] = 0
declared_in (e ∷ es) = declared_by e ∪ declared_in es

-- "Old to new names each action `a` and its number"
abbrev pub default_name : ℕ → Name
default_name a = 97 ∷ decimal a

-- the default names of a set's actions below n
unfoldable pub defaults : ℕ → ℕ → Sheet
defaults s zero = []
defaults s (suc n) = cond (has s n) (record { number = n; name = default_name n } ∷ defaults s n) (defaults s n)

abbrev pub defaults_of : Model → Sheet
defaults_of m = defaults (declared_in (entries_of m)) max_actions

-- ---- as a line is scanned
-- "for shape a name may be any bytes but tab and LF": the bytes before the first of these
abbrev pub ends_name : ℕ → Bool
ends_name b = eqb b tab || eqb b lf

abbrev pub with_byte : ℕ → Got Name → Got Name
with_byte b g = record { value = b ∷ g.value; rest = g.rest }

unfoldable pub name_at : List ℕ → Got Name
name_at [] = record { value = []; rest = [] }
name_at (b ∷ bs) = elim (ends_name b) [ true ↦ record { value = []; rest = b ∷ bs } | false ↦ with_byte b (name_at bs) ]

abbrev pub name_scan : List ℕ → Scan Name
name_scan bs = is (name_at bs)

-- a line of the new form; `comp` and `clk` lines are as they were
pub data Line : Type 0 where
  form-line : Line
  name-line : (number : ℕ) (name : Name) → Line
  act-line : (name : Name) (kind : Kind) → Line
  row-line : (from : ℕ) (guard : Option ℕ) (name : Name) (resets : List ℕ) (target : ℕ) → Line
  plain-line : Entry → Line

abbrev pub ended : Line → List ℕ → Scan Line
ended l bs = then (the_byte lf bs) (λ _ cs. got l cs)

unfoldable pub form_end : List ℕ → Scan Line
form_end bs = then (exactly form_rest bs) (λ _ cs. got form-line cs)

unfoldable pub name_end : List ℕ → Scan Line
name_end bs = then (field number bs) (λ n cs. then (field name_scan cs) (λ w ds. ended (name-line n w) ds))

unfoldable pub act_end : List ℕ → Scan Line
act_end bs = then (field name_scan bs) (λ w cs. then (field kind cs) (λ k ds. ended (act-line w k) ds))

unfoldable pub row_end : List ℕ → Scan Line
row_end bs =
    then (field number bs) (λ s cs.
    then (field guard_or_dash cs) (λ g ds.
    then (field name_scan ds) (λ w es.
    then (field numbers_or_dash es) (λ r fs.
    then (field number fs) (λ t gs.
    ended (row-line s g w r t) gs)))))

abbrev pub plain : Scan Entry → Scan Line
plain s = then s (λ e cs. got (plain-line e) cs)

-- one line, with its LF: its first word tells what is behind it; where it has none of the six, the word that got furthest tells where it stops
unfoldable pub line : List ℕ → Scan Line
line bs = elim (exactly form_word bs) [
  | is g ↦ form_end g.rest
  | stops f ↦ elim (exactly name_word bs) [
    | is g ↦ name_end g.rest
    | stops n ↦ elim (exactly act_word bs) [
      | is g ↦ act_end g.rest
      | stops a ↦ elim (exactly row_word bs) [ is g ↦ row_end g.rest | stops r ↦ furthest (plain (entry bs)) (stops (shorter f n)) ]
    ]
  ]
]

-- ---- a line as it is printed, for every line that a scan can read
-- no byte of a name is tab or LF
abbrev pub NameFits : Name → Type 0
NameFits [] = Unit {0}
NameFits (b ∷ bs) = (ends_name b ≡ false) × NameFits bs

-- a line that has no action field
abbrev pub IsPlain : Entry → Type 0
IsPlain (comp-entry n s) = Unit {0}
IsPlain (act-entry a k) = ⊥
IsPlain (clk-entry x b) = Unit {0}
IsPlain (row-entry s g a r t) = ⊥

unfoldable pub line_text : Line → List ℕ
line_text form-line = form_line
line_text (name-line n w) = name_word ++ fields_after (decimal n ∷ w ∷ [])
line_text (act-line w k) = act_word ++ fields_after (w ∷ kind_word k ∷ [])
line_text (row-line s g w r t) = row_word ++ fields_after (decimal s ∷ guard_field (guard_of g) ∷ w ∷ list_field r ∷ decimal t ∷ [])
line_text (plain-line e) = line_of e

abbrev pub LineFits₂ : Line → Type 0
LineFits₂ form-line = Unit {0}
LineFits₂ (name-line n w) = Fits n × NameFits w
LineFits₂ (act-line w k) = NameFits w
LineFits₂ (row-line s g w r t) = Fits s × GuardFits g × NameFits w × AllFit r × Fits t
LineFits₂ (plain-line e) = LineFits e × IsPlain e
