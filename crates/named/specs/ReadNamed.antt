-- Reading a text of the second form (02, 7/13): "Refusals: 43 bad or repeated name, 44 an `act` name that no `name` line gives (on a row that is 5) or, after 8, an unused one;
-- both at the line, after 6". A line of good shape is judged as the old line that it is with its name exchanged for its number.
use Rattle.std.proofs.Math.Option.{Option, none, some}
use Rattle.std.specs.Prelude.{List, [], ◌∷◌, ◌++◌, reverse, Bool, true, false, ◌||◌, not, cond, ℕ, zero, suc, ◌+◌, ◌-◌, length, eqb, ltb}
use Rattle.laws.specs.Sets.{has, ◌∪◌}
use Rattle.laws.specs.Search.{when, is_some, or_else, map_some}
use Rattle.answer.specs.Limits.{max_actions, max_bytes}
use Rattle.answer.specs.Told.{tell, Answer, answered, refused}
use Rattle.model.specs.Model.{Comp, Model}
use Rattle.model.specs.Text.{decimal, guard_field}
use Rattle.model.specs.Reading.{is, stops, exactly, guard_of, Entry, act-entry, row-entry, Progress, current, at_start, on_last, take_in, out_of_turn, fault_of, column_of, stop_column}
use Rattle.named.specs.NamedText.{Name, good_name, Sheet, number_of, declared_by, form_line, Line, form-line, name-line, act-line, row-line, plain-line, line}

-- ---- what stands before a line: the sheet, the old lines so far and what they come to, and the actions that they declare
pub record Progress₂ : Type 0 where
  pub sheet : Sheet
  pub lines : List Entry
  pub model : Progress
  pub declared : ℕ

abbrev pub begun : Progress₂
begun = record { sheet = []; lines = []; model = at_start; declared = 0 }

-- the old line, if the name has a number
abbrev pub resolve_by : (Name → Option ℕ) → Line → Option Entry
resolve_by f form-line = none
resolve_by f (name-line n w) = none
resolve_by f (act-line w k) = map_some (λ a. act-entry a k) (f w)
resolve_by f (row-line s g w r t) = map_some (λ a. row-entry s g a r t) (f w)
resolve_by f (plain-line e) = some e

-- by the sheet
abbrev pub resolve : Sheet → Line → Option Entry
resolve sheet l = resolve_by (number_of sheet) l

-- ---- the faults of a line of good shape
-- 6: the number is above that of the last `name` line
abbrev pub above : Sheet → ℕ → Bool
above [] n = true
above (e ∷ sheet) n = ltb e.number n

-- 43 "bad or repeated name"
abbrev pub bad_name : Sheet → Name → Bool
bad_name sheet w = not (good_name w) || is_some (number_of sheet w)

-- a component without its actions: a row by a name that no `name` line gives is judged against it
abbrev pub actless : Comp → Comp
actless c = record { states = c.states; start = c.start; ins = 0; outs = 0; uins = 0; uouts = 0; clocks = c.clocks; started = c.started; rows = c.rows }

abbrev pub without_acts : Progress → Progress
without_acts p = record { comps = on_last actless p.comps; last = p.last }

-- "within a line 2 to 6, 43, 44, 7"; a `form` line, and a `name` line behind any `comp`, are out of turn
unfoldable pub fault_named : Progress₂ → Line → Option ℕ
fault_named p form-line = some 3
fault_named p (name-line n w) =
    let b : Option ℕ = when (not (ltb n max_actions)) 4 in
    let c : Option ℕ = when (not (above p.sheet n)) 6 in
    let d : Option ℕ = when (bad_name p.sheet w) 43 in
    or_else (when (is_some p.model.last) 3) (or_else b (or_else c d))
fault_named p (act-line w k) = elim (number_of p.sheet w) [
  | some a ↦ fault_of p.model (act-entry a k)
  | none ↦ cond (out_of_turn p.model.last (act-entry 0 k)) (some 3) (some 44)
]
fault_named p (row-line s g w r t) = elim (number_of p.sheet w) [
  | some a ↦ fault_of p.model (row-entry s g a r t)
  | none ↦ fault_of (without_acts p.model) (row-entry s g 0 r t)
]
fault_named p (plain-line e) = fault_of p.model e

-- ---- columns (02, 2/13): those of the old line, moved behind the name by how much longer that is than the number a
-- the column of a row's name
abbrev pub name_column : ℕ → Option ℕ → ℕ
name_column s g = 7 + length (decimal s) + length (guard_field (guard_of g))

abbrev pub moved_by : ℕ → ℕ → ℕ → ℕ → ℕ
moved_by n w a k = cond (ltb n k) (k + w - a) k

abbrev pub moved_in : ℕ → Option ℕ → Name → ℕ → List ℕ → List ℕ
moved_in s g w a [] = []
moved_in s g w a (k ∷ ks) = moved_by (name_column s g) (length w) (length (decimal a)) k ∷ []

-- what stands behind the line in the place of fault f
unfoldable pub behind_line : Progress₂ → ℕ → Line → List ℕ
behind_line p f form-line = []
behind_line p f (name-line n w) = cond (eqb f 4) (6 ∷ []) []
behind_line p f (act-line w k) = []
behind_line p f (row-line s g w r t) = elim (number_of p.sheet w) [
  | some a ↦ moved_in s g w a (column_of (current p.model) f (row-entry s g a r t))
  | none ↦ moved_in s g w 0 (column_of (current (without_acts p.model)) f (row-entry s g 0 r t))
]
behind_line p f (plain-line e) = column_of (current p.model) f e

-- ---- a faultless line is taken in
abbrev pub with_old : Progress₂ → Option Entry → Progress₂
with_old p none = p
with_old p (some e) = record {
  sheet = p.sheet;
  lines = p.lines ++ e ∷ [];
  model = record { comps = take_in p.model.comps e; last = some e };
  declared = p.declared ∪ declared_by e;
}

abbrev pub with_name : Progress₂ → ℕ → Name → Progress₂
with_name p n w = record { sheet = record { number = n; name = w } ∷ p.sheet; lines = p.lines; model = p.model; declared = p.declared }

unfoldable pub taken : Progress₂ → Line → Progress₂
taken p form-line = p
taken p (name-line n w) = with_name p n w
taken p (act-line w k) = with_old p (resolve p.sheet (act-line w k))
taken p (row-line s g w r t) = with_old p (resolve p.sheet (row-line s g w r t))
taken p (plain-line e) = with_old p (some e)

-- ---- the whole text
-- what a text of the second form says: its sheet, its lines in the old form, and the model
pub record Read : Type 0 where
  pub sheet : Sheet
  pub lines : List Entry
  pub model : Model

-- 44 "or, after 8, an unused one": the first `name` line whose action no `act` line declares; the `form` line is line 1
unfoldable pub unused : ℕ → Sheet → Option ℕ
unused d [] = none
unused d (e ∷ sheet) = or_else (unused d sheet) (when (not (has d e.number)) (length sheet + 2))

abbrev pub unless_unused : Option ℕ → Read → Answer Read
unless_unused none r = answered r
unless_unused (some n) r = refused (tell 44 (n ∷ []))

abbrev pub finish_named : Progress₂ → List Comp → Answer Read
finish_named p [] = refused (tell 8 (0 ∷ []))
finish_named p (c ∷ cs) = unless_unused (unused p.declared p.sheet) (record { sheet = p.sheet; lines = p.lines; model = reverse (c ∷ cs) })

-- the lines from line n on, of which there are no more than k
unfoldable pub lines_from₂ : ℕ → ℕ → Progress₂ → List ℕ → Answer Read
lines_from₂ zero n p bs = finish_named p p.model.comps
lines_from₂ (suc k) n p [] = finish_named p p.model.comps
lines_from₂ (suc k) n p (b ∷ bs) = elim (line (b ∷ bs)) [
  | stops cs ↦ refused (tell 2 (n ∷ stop_column (b ∷ bs) cs ∷ []))
  | is g ↦ elim (fault_named p g.value) [
    | some f ↦ refused (tell f (n ∷ behind_line p f g.value))
    | none ↦ lines_from₂ k (suc n) (taken p g.value) g.rest
  ]
]

-- "first line `form`, tab, `2` (else 2)", then the other lines; an empty text has no line, and is 8
unfoldable pub first_line : List ℕ → Answer Read
first_line [] = refused (tell 8 (0 ∷ []))
first_line (b ∷ bs) = elim (exactly form_line (b ∷ bs)) [
  | stops cs ↦ refused (tell 2 (1 ∷ stop_column (b ∷ bs) cs ∷ []))
  | is g ↦ lines_from₂ (length g.rest) 2 begun g.rest
]

-- "Limits of 01 hold for each form's own text": 1
unfoldable pub read_named : List ℕ → Answer Read
read_named bs = elim (ltb max_bytes (length bs)) [ true ↦ refused (tell 1 (0 ∷ [])) | false ↦ first_line bs ]
