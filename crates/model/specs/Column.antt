-- The column that 2, 4 and 5 carry (02, 2/13): "for 2 the first byte that no well-shaped line could have there (a missing LF counts one past the end), for 4 and 5 the
-- first byte of the first value at fault. Columns are bytes from 1". Nothing here computes a column.
use Rattle.std.specs.Prelude.{◌≡◌, List, [], ◌∷◌, ◌++◌, ℕ, suc, ◌≤◌, ◌<◌, length}
use Rattle.std.proofs.Math.Option.{Option, none, some}
use Rattle.laws.specs.Sets.{◌∈◌}
use Rattle.answer.specs.Limits.{max_states, max_actions, max_clocks}
use Rattle.model.specs.Model.{Comp, acts}
use Rattle.model.specs.Text.{tab, comma, comp_word, act_word, clk_word, row_word, Kind, decimal, guard_field}
use Rattle.model.specs.Reading.{Entry, comp-entry, act-entry, clk-entry, row-entry, guard_of, Value, states-value, state-value, action-value, clock-value, set_value, dash-value}
use Rattle.model.specs.Line.{list_field, line_of, LineFits}

-- ---- 2
-- these bytes begin some well-shaped line, of lines that are printed so
pub record BeginsOf {A : Type 0} (print : A → List ℕ) (Fits : A → Type 0) (bs : List ℕ) : Type 0 where
  pub line : A
  pub fits : Fits line
  pub rest : List ℕ
  pub printed : print line ≡ bs ++ rest

-- the bytes end here, or these bytes and the next one begin no line
abbrev pub NoneWithOf : {A : Type 0} → (A → List ℕ) → (A → Type 0) → List ℕ → List ℕ → Type 0
NoneWithOf print Fits before [] = Unit {0}
NoneWithOf print Fits before (b ∷ bs) = ¬ BeginsOf print Fits (before ++ b ∷ [])

-- the bytes before the column begin some line; with the byte at the column they begin none, or there is none
pub record WrongByteOf {A : Type 0} (print : A → List ℕ) (Fits : A → Type 0) (bs : List ℕ) (column : ℕ) : Type 0 where
  pub before : List ℕ
  pub behind : List ℕ
  pub bytes : bs ≡ before ++ behind
  pub begins : BeginsOf print Fits before
  pub none-with : NoneWithOf print Fits before behind
  pub at : column ≡ suc (length before)

-- the lines of a model's text
abbrev pub Begins : List ℕ → Type 0
Begins bs = BeginsOf line_of LineFits bs

abbrev pub WrongByte : List ℕ → ℕ → Type 0
WrongByte bs column = WrongByteOf line_of LineFits bs column

-- ---- 4 and 5
-- the fields behind a line's first word, each behind a tab, and a tab
unfoldable pub fields_up_to : List (List ℕ) → List ℕ
fields_up_to [] = tab ∷ []
fields_up_to (f ∷ fs) = tab ∷ f ++ fields_up_to fs

-- clocks of a resets field, each with the comma behind it
unfoldable pub clocks_up_to : List ℕ → List ℕ
clocks_up_to [] = []
clocks_up_to (x ∷ xs) = decimal x ++ comma ∷ clocks_up_to xs

-- a number of a line, and the bytes of the line before it: the table of lines (01, "The model text") from left to right
pub data Stands : Entry → Value → List ℕ → Type 0 where
  states-at : {n s : ℕ} → Stands (comp-entry n s) (states-value n) (comp_word ++ fields_up_to [])
  start-at : {n s : ℕ} → Stands (comp-entry n s) (state-value s) (comp_word ++ fields_up_to (decimal n ∷ []))
  act-at : {a : ℕ} {k : Kind} → Stands (act-entry a k) (action-value a) (act_word ++ fields_up_to [])
  clk-at : {x b : ℕ} → Stands (clk-entry x b) (clock-value x) (clk_word ++ fields_up_to [])
  set_at : {x b : ℕ} → Stands (clk-entry x b) (set_value b) (clk_word ++ fields_up_to (decimal x ∷ []))
  from_at : {s : ℕ} {g : Option ℕ} {a : ℕ} {r : List ℕ} {t : ℕ} → Stands (row-entry s g a r t) (state-value s) (row_word ++ fields_up_to [])
  guard-at : {s x a : ℕ} {r : List ℕ} {t : ℕ} → Stands (row-entry s (some x) a r t) (clock-value x) (row_word ++ fields_up_to (decimal s ∷ []))
  action-at : {s : ℕ} {g : Option ℕ} {a : ℕ} {r : List ℕ} {t : ℕ}
      → Stands (row-entry s g a r t) (action-value a) (row_word ++ fields_up_to (decimal s ∷ guard_field (guard_of g) ∷ []))
  reset-at : {s : ℕ} {g : Option ℕ} {a : ℕ} {r : List ℕ} {t : ℕ} (xs : List ℕ) (x : ℕ) (ys : List ℕ) → r ≡ xs ++ x ∷ ys
      → Stands (row-entry s g a r t) (clock-value x) (row_word ++ fields_up_to (decimal s ∷ guard_field (guard_of g) ∷ decimal a ∷ []) ++ clocks_up_to xs)
  target_at : {s : ℕ} {g : Option ℕ} {a : ℕ} {r : List ℕ} {t : ℕ}
      → Stands (row-entry s g a r t) (state-value t) (row_word ++ fields_up_to (decimal s ∷ guard_field (guard_of g) ∷ decimal a ∷ list_field r ∷ []))

-- the first value at fault stands at the column
pub record FirstValue (Fine : Value → Type 0) (e : Entry) (column : ℕ) : Type 0 where
  pub value : Value
  pub before : List ℕ
  pub stands : Stands e value before
  pub fault : ¬ Fine value
  pub first : (v : Value) (b : List ℕ) → Stands e v b → ¬ Fine v → length before ≤ length b
  pub at : column ≡ suc (length before)

-- 4: each value's range; n is how many states the component has
abbrev pub Ranged : ℕ → Value → Type 0
Ranged n (states-value m) = (1 ≤ m) × (m ≤ max_states)
Ranged n (state-value s) = s < n
Ranged n (action-value a) = a < max_actions
Ranged n (clock-value x) = x < max_clocks
Ranged n (set_value b) = b ≤ 1
Ranged n dash-value = Unit {0}

-- 5: actions and clocks that the component has
abbrev pub Owned : Comp → Value → Type 0
Owned c (states-value m) = Unit {0}
Owned c (state-value s) = Unit {0}
Owned c (action-value a) = a ∈ acts c
Owned c (clock-value x) = x ∈ c.clocks
Owned c (set_value b) = Unit {0}
Owned c dash-value = Unit {0}
