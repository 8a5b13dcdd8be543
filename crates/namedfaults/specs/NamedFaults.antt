-- A text of the second form by its faults (02, 7/13): what a faultless line is, each fault of a line as a predicate of its own, and the lines in their turn.
-- Nothing here computes a fault or a column.
use Rattle.std.specs.Prelude.{◌≡◌, true, List, [], ◌∷◌, ◌++◌, ℕ, suc, ◌+◌, ◌≤◌, ◌<◌, length}
use Rattle.std.proofs.Math.Option.{Option, none, some}
use Rattle.laws.specs.Sets.{◌∈◌}
use Rattle.answer.specs.Limits.{max_rows, max_actions, max_clocks, max_bytes}
use Rattle.model.specs.Model.{Comp, acts, row_count}
use Rattle.model.specs.Text.{row_word, decimal, guard_field}
use Rattle.model.specs.Reading.{act-entry, row-entry, guard_of, Value, state-value, action-value, clock-value, current, states_by}
use Rattle.model.specs.Line.{list_field}
use Rattle.model.specs.Column.{WrongByteOf, fields_up_to, clocks_up_to, Stands, Ranged, Owned}
use Rattle.model.specs.Faulty.{Each, GuardIs, InTurn, InRange, Named, InOrder, Room}
use Rattle.named.specs.NamedText.{Name, good_name, Sheet, NameLine, number_of, name_word, form_line, Line, form-line, name-line, act-line, row-line, plain-line}
use Rattle.named.specs.NamedText.{line_text, LineFits₂}
use Rattle.named.specs.ReadNamed.{Progress₂, begun, above, taken}

-- ---- a faultless line
-- the name is that of an action, that is of a `name` line
abbrev pub Known : Sheet → Name → Type 0
Known sheet w = (a : ℕ) × (number_of sheet w ≡ some a)

-- "first line `form` .., then a `name` line per action", then the components: no other `form` line, and no `name` line behind a `comp`; the others as ever
abbrev pub InTurn₂ : Progress₂ → Line → Type 0
InTurn₂ p form-line = ⊥
InTurn₂ p (name-line n w) = p.model.last ≡ none
InTurn₂ p (act-line w k) = InTurn p.model.last (act-entry 0 k)
InTurn₂ p (row-line s g w r t) = InTurn p.model.last (row-entry s g 0 r t)
InTurn₂ p (plain-line e) = InTurn p.model.last e

-- numbers within their ranges; a name has none
abbrev pub InRange₂ : Progress₂ → Line → Type 0
InRange₂ p form-line = Unit {0}
InRange₂ p (name-line n w) = n < max_actions
InRange₂ p (act-line w k) = Unit {0}
InRange₂ p (row-line s g w r t) =
    (s < (current p.model).states) × GuardIs (λ x. x < max_clocks) g × Each (λ x. x < max_clocks) r × (t < (current p.model).states)
InRange₂ p (plain-line e) = InRange (current p.model) e

-- the name is that of an action that the component has
abbrev pub Declared : Progress₂ → Name → Type 0
Declared p w = (a : ℕ) × (number_of p.sheet w ≡ some a) × (a ∈ acts (current p.model))

-- a row names actions and clocks that its component has: "(on a row that is 5)"
abbrev pub Named₂ : Progress₂ → Line → Type 0
Named₂ p form-line = Unit {0}
Named₂ p (name-line n w) = Unit {0}
Named₂ p (act-line w k) = Unit {0}
Named₂ p (row-line s g w r t) = GuardIs (λ x. x ∈ (current p.model).clocks) g × Declared p w × Each (λ x. x ∈ (current p.model).clocks) r
Named₂ p (plain-line e) = Named (current p.model) e

-- "number, ascending"; `act` and `row` lines ascend by the number behind the name
abbrev pub InOrder₂ : Progress₂ → Line → Type 0
InOrder₂ p form-line = Unit {0}
InOrder₂ p (name-line n w) = above p.sheet n ≡ true
InOrder₂ p (act-line w k) = (a : ℕ) → number_of p.sheet w ≡ some a → InOrder p.model.last (act-entry a k)
InOrder₂ p (row-line s g w r t) = (a : ℕ) → number_of p.sheet w ≡ some a → InOrder p.model.last (row-entry s g a r t)
InOrder₂ p (plain-line e) = InOrder p.model.last e

-- "a name of 1 to 16 lower-case letters or digits that starts with a letter, all different"
abbrev pub WellNamed : Progress₂ → Line → Type 0
WellNamed p form-line = Unit {0}
WellNamed p (name-line n w) = (good_name w ≡ true) × ¬ Known p.sheet w
WellNamed p (act-line w k) = Unit {0}
WellNamed p (row-line s g w r t) = Unit {0}
WellNamed p (plain-line e) = Unit {0}

-- an `act` line has the name of some `name` line
abbrev pub ActKnown : Progress₂ → Line → Type 0
ActKnown p form-line = Unit {0}
ActKnown p (name-line n w) = Unit {0}
ActKnown p (act-line w k) = Known p.sheet w
ActKnown p (row-line s g w r t) = Unit {0}
ActKnown p (plain-line e) = Unit {0}

-- at most 32 components and 1,024 rows, as ever
abbrev pub Room₂ : Progress₂ → Line → Type 0
Room₂ p form-line = Unit {0}
Room₂ p (name-line n w) = Unit {0}
Room₂ p (act-line w k) = Unit {0}
Room₂ p (row-line s g w r t) = row_count p.model.comps < max_rows
Room₂ p (plain-line e) = Room p.model.comps e

pub record Faultless₂ (p : Progress₂) (l : Line) : Type 0 where
  pub in-turn : InTurn₂ p l
  pub in-range : InRange₂ p l
  pub named : Named₂ p l
  pub in_order : InOrder₂ p l
  pub well-named : WellNamed p l
  pub known : ActKnown p l
  pub room : Room₂ p l

-- ---- the faults of the line at the front of the bytes bs, by their numbers
pub record LineAt₂ (bs : List ℕ) (l : Line) (cs : List ℕ) : Type 0 where
  pub fits : LineFits₂ l
  pub printed : bs ≡ line_text l ++ cs

-- "within a line 2 to 6, 43, 44, 7"; no line can have 7 and one of 43 and 44, so the lowest is the first
pub data LineFault₂ (p : Progress₂) (bs : List ℕ) (n : ℕ) : Type 0 where
  wrong-shape : n ≡ 2 → ((l : Line) (cs : List ℕ) → LineAt₂ bs l cs → ⊥) → LineFault₂ p bs n
  out-of-turn : {l : Line} {cs : List ℕ} → n ≡ 3 → LineAt₂ bs l cs → ¬ InTurn₂ p l → LineFault₂ p bs n
  is_out_of_range : {l : Line} {cs : List ℕ} → n ≡ 4 → LineAt₂ bs l cs → ¬ InRange₂ p l → LineFault₂ p bs n
  not_named : {l : Line} {cs : List ℕ} → n ≡ 5 → LineAt₂ bs l cs → ¬ Named₂ p l → LineFault₂ p bs n
  is_out_of_order : {l : Line} {cs : List ℕ} → n ≡ 6 → LineAt₂ bs l cs → ¬ InOrder₂ p l → LineFault₂ p bs n
  -- 43 "bad or repeated name"
  bad-name : {l : Line} {cs : List ℕ} → n ≡ 43 → LineAt₂ bs l cs → ¬ WellNamed p l → LineFault₂ p bs n
  -- 44 "an `act` name that no `name` line gives"
  not_known : {l : Line} {cs : List ℕ} → n ≡ 44 → LineAt₂ bs l cs → ¬ ActKnown p l → LineFault₂ p bs n
  is_too_many : {l : Line} {cs : List ℕ} → n ≡ 7 → LineAt₂ bs l cs → ¬ Room₂ p l → LineFault₂ p bs n

-- ---- the columns (02, 2/13)
-- a value of a line: a number, as ever, or a name
pub data Value₂ : Type 0 where
  value : Value → Value₂
  name : Name → Value₂

-- a value, and the bytes of the line before it
pub data Stands₂ : Line → Value₂ → List ℕ → Type 0 where
  number_at : {n : ℕ} {w : Name} → Stands₂ (name-line n w) (value (action-value n)) (name_word ++ fields_up_to [])
  from_at : {s : ℕ} {g : Option ℕ} {w : Name} {r : List ℕ} {t : ℕ} → Stands₂ (row-line s g w r t) (value (state-value s)) (row_word ++ fields_up_to [])
  guard-at : {s x : ℕ} {w : Name} {r : List ℕ} {t : ℕ} → Stands₂ (row-line s (some x) w r t) (value (clock-value x)) (row_word ++ fields_up_to (decimal s ∷ []))
  name-at : {s : ℕ} {g : Option ℕ} {w : Name} {r : List ℕ} {t : ℕ}
      → Stands₂ (row-line s g w r t) (name w) (row_word ++ fields_up_to (decimal s ∷ guard_field (guard_of g) ∷ []))
  reset-at : {s : ℕ} {g : Option ℕ} {w : Name} {r : List ℕ} {t : ℕ} (xs : List ℕ) (x : ℕ) (ys : List ℕ) → r ≡ xs ++ x ∷ ys
      → Stands₂ (row-line s g w r t) (value (clock-value x)) (row_word ++ fields_up_to (decimal s ∷ guard_field (guard_of g) ∷ w ∷ []) ++ clocks_up_to xs)
  target_at : {s : ℕ} {g : Option ℕ} {w : Name} {r : List ℕ} {t : ℕ}
      → Stands₂ (row-line s g w r t) (value (state-value t)) (row_word ++ fields_up_to (decimal s ∷ guard_field (guard_of g) ∷ w ∷ list_field r ∷ []))
  plain_at : {e : Rattle.model.specs.Reading.Entry} {v : Value} {b : List ℕ} → Stands e v b → Stands₂ (plain-line e) (value v) b

-- the first value at fault stands at the column
pub record FirstValue₂ (Fine : Value₂ → Type 0) (l : Line) (column : ℕ) : Type 0 where
  pub value : Value₂
  pub before : List ℕ
  pub stands : Stands₂ l value before
  pub fault : ¬ Fine value
  pub first : (v : Value₂) (b : List ℕ) → Stands₂ l v b → ¬ Fine v → length before ≤ length b
  pub at : column ≡ suc (length before)

-- how many states the component of a line has
abbrev pub states_by₂ : Comp → Line → ℕ
states_by₂ c form-line = c.states
states_by₂ c (name-line n w) = c.states
states_by₂ c (act-line w k) = c.states
states_by₂ c (row-line s g w r t) = c.states
states_by₂ c (plain-line e) = states_by c e

-- 4: in its range; 5: the component has it
abbrev pub Ranged₂ : ℕ → Value₂ → Type 0
Ranged₂ n (value v) = Ranged n v
Ranged₂ n (name w) = Unit {0}

abbrev pub Owned₂ : Progress₂ → Value₂ → Type 0
Owned₂ p (value v) = Owned (current p.model) v
Owned₂ p (name w) = Declared p w

-- "2, 4 and 5 carry line and column": what stands behind the line in the place of n
pub data Carries₂ (p : Progress₂) (bs : List ℕ) (n : ℕ) (column : List ℕ) : Type 0 where
  wrong_byte : {k : ℕ} → n ≡ 2 → WrongByteOf line_text LineFits₂ bs k → column ≡ k ∷ [] → Carries₂ p bs n column
  range-value : {l : Line} {cs : List ℕ} {k : ℕ} → n ≡ 4 → LineAt₂ bs l cs → FirstValue₂ (Ranged₂ (states_by₂ (current p.model) l)) l k → column ≡ k ∷ []
      → Carries₂ p bs n column
  name-value : {l : Line} {cs : List ℕ} {k : ℕ} → n ≡ 5 → LineAt₂ bs l cs → FirstValue₂ (Owned₂ p) l k → column ≡ k ∷ [] → Carries₂ p bs n column
  line-alone : ¬ (n ≡ 2) → ¬ (n ≡ 4) → ¬ (n ≡ 5) → column ≡ [] → Carries₂ p bs n column

-- ---- the lines in their turn
-- "lines in file order": line n stands at these bytes, behind faultless lines that come to p; the `form` line is line 1
pub data Before (t : List ℕ) : ℕ → Progress₂ → List ℕ → Type 0 where
  form-first : {bs : List ℕ} → length t ≤ max_bytes → t ≡ form_line ++ bs → Before t 2 begun bs
  line-next : {n : ℕ} {p : Progress₂} {bs cs : List ℕ} {l : Line} → Before t n p bs → LineAt₂ bs l cs → Faultless₂ p l → Before t (suc n) (taken p l) cs

-- 2 at line 1, where the text does not begin with the `form` line: the first byte that differs from it
abbrev pub WrongForm : List ℕ → ℕ → Type 0
WrongForm t column = WrongByteOf {A = Unit {0}} (λ _. form_line) (λ _. Unit {0}) t column

-- 44 "or, after 8, an unused one": a `name` line, and its number in the text, whose action is not in the set of declared ones; the sheet has its last
-- line first
pub record UnusedAt (d : ℕ) (sheet : Sheet) (k : ℕ) : Type 0 where
  pub later : Sheet
  pub unused : NameLine
  pub earlier : Sheet
  pub lines : sheet ≡ later ++ unused ∷ earlier
  pub not_in : ¬ (unused.number ∈ d)
  pub at : k ≡ length earlier + 2
