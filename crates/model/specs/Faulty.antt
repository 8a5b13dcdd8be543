-- Reading by its faults (01, "Refusal numbers", 1 to 8): what a faultless line is, each fault of a line as a predicate of its own, and the lines of a text in their turn.
use Rattle.std.specs.Prelude.{◌≡◌, ◌⊎◌, true, List, [], ◌∷◌, ◌++◌, ℕ, suc, ◌≤◌, ◌<◌, length}
use Rattle.std.proofs.Math.Option.{Option, none, some}
use Rattle.laws.specs.Sets.{◌∈◌}
use Rattle.laws.specs.Lowest.{Lowest}
use Rattle.answer.specs.Limits.{max_components, max_rows, max_states, max_actions, max_clocks, max_bytes}
use Rattle.answer.specs.Told.{tell, Answer, answered, refused}
use Rattle.model.specs.Model.{Comp, Model, acts, row_count}
use Rattle.model.specs.WellFormed.{before}
use Rattle.model.specs.Reading.{Entry, comp-entry, act-entry, clk-entry, row-entry, Progress, current, at_start, turn, row_of, take_in, states_by}
use Rattle.model.specs.Line.{line_of, LineFits}
use Rattle.model.specs.Column.{WrongByte, FirstValue, Ranged, Owned}

-- each number of a list; the clock of a guard, if it has one
abbrev pub Each : (ℕ → Type 0) → List ℕ → Type 0
Each P [] = Unit {0}
Each P (x ∷ xs) = P x × Each P xs

abbrev pub GuardIs : (ℕ → Type 0) → Option ℕ → Type 0
GuardIs P none = Unit {0}
GuardIs P (some x) = P x

-- ---- a faultless line
-- "first its `act` lines, then `clk`, then `row`"; a `comp` line may always come, and comes first
abbrev pub InTurn : Option Entry → Entry → Type 0
InTurn none e = turn e ≡ 0
InTurn (some d) e = (turn e ≡ 0) ⊎ (turn d ≤ turn e)

-- the ranges of the table of lines; c is the component that the line belongs to
abbrev pub InRange : Comp → Entry → Type 0
InRange c (comp-entry n s) = (1 ≤ n) × (n ≤ max_states) × (s < n)
InRange c (act-entry a k) = a < max_actions
InRange c (clk-entry x b) = (x < max_clocks) × (b ≤ 1)
InRange c (row-entry s g a r t) = (s < c.states) × GuardIs (λ x. x < max_clocks) g × (a < max_actions) × Each (λ x. x < max_clocks) r × (t < c.states)

-- a row names actions and clocks that its component has
abbrev pub Named : Comp → Entry → Type 0
Named c (comp-entry n s) = Unit {0}
Named c (act-entry a k) = Unit {0}
Named c (clk-entry x b) = Unit {0}
Named c (row-entry s g a r t) = GuardIs (λ x. x ∈ c.clocks) g × (a ∈ acts c) × Each (λ x. x ∈ c.clocks) r

-- "`act` and `clk` lines ascend strictly by number. `row` lines ascend strictly by from, action, guard .., resets .., target": e after d
abbrev pub After : Entry → Entry → Type 0
After d (comp-entry n s) = Unit {0}
After d (act-entry a k) = elim d as (λ _. Type 0) [ act-entry b j ↦ b < a | comp-entry n s ↦ Unit {0} | clk-entry x b ↦ Unit {0} | row-entry s g b r t ↦ Unit {0} ]
After d (clk-entry x b) = elim d as (λ _. Type 0) [ clk-entry y j ↦ y < x | comp-entry n s ↦ Unit {0} | act-entry a k ↦ Unit {0} | row-entry s g a r t ↦ Unit {0} ]
After d (row-entry s g a r t) = elim d as (λ _. Type 0) [
  | row-entry s₀ g₀ a₀ r₀ t₀ ↦ before (row_of s₀ g₀ a₀ r₀ t₀) (row_of s g a r t) ≡ true
  | comp-entry n z ↦ Unit {0}
  | act-entry b k ↦ Unit {0}
  | clk-entry x b ↦ Unit {0}
]

abbrev pub Ascends : List ℕ → Type 0
Ascends [] = Unit {0}
Ascends (x ∷ []) = Unit {0}
Ascends (x ∷ y ∷ ys) = (x < y) × Ascends (y ∷ ys)

-- "clocks strictly ascending"
abbrev pub ResetsAscend : Entry → Type 0
ResetsAscend (comp-entry n s) = Unit {0}
ResetsAscend (act-entry a k) = Unit {0}
ResetsAscend (clk-entry x b) = Unit {0}
ResetsAscend (row-entry s g a r t) = Ascends r

abbrev pub InOrder : Option Entry → Entry → Type 0
InOrder none e = ResetsAscend e
InOrder (some d) e = After d e × ResetsAscend e

-- "1 to 16 components, at most 1,024 rows in all"; 32 components since request 12
abbrev pub Room : List Comp → Entry → Type 0
Room m (comp-entry n s) = length m < max_components
Room m (act-entry a k) = Unit {0}
Room m (clk-entry x b) = Unit {0}
Room m (row-entry s g a r t) = row_count m < max_rows

pub record Faultless (p : Progress) (e : Entry) : Type 0 where
  pub in-turn : InTurn p.last e
  pub in-range : InRange (current p) e
  pub named : Named (current p) e
  pub in_order : InOrder p.last e
  pub room : Room p.comps e

-- ---- lines as they are printed
-- the bytes bs begin with the line e, its numbers of 1 to 5 digits, and cs is behind it
pub record LineAt (bs : List ℕ) (e : Entry) (cs : List ℕ) : Type 0 where
  pub fits : LineFits e
  pub printed : bs ≡ line_of e ++ cs

-- ---- the faults of the line at the front of the bytes bs, by their numbers
pub data LineFault (p : Progress) (bs : List ℕ) (n : ℕ) : Type 0 where
  -- 2 "line of wrong shape, or last line without LF"
  wrong-shape : n ≡ 2 → ((e : Entry) (cs : List ℕ) → LineAt bs e cs → ⊥) → LineFault p bs n
  -- 3 "line before any `comp`, or kinds out of turn"
  out-of-turn : {e : Entry} {cs : List ℕ} → n ≡ 3 → LineAt bs e cs → ¬ InTurn p.last e → LineFault p bs n
  -- 4 "number outside its range"
  is_out_of_range : {e : Entry} {cs : List ℕ} → n ≡ 4 → LineAt bs e cs → ¬ InRange (current p) e → LineFault p bs n
  -- 5 "row names an action or clock its component lacks"
  not_named : {e : Entry} {cs : List ℕ} → n ≡ 5 → LineAt bs e cs → ¬ Named (current p) e → LineFault p bs n
  -- 6 "lines of one kind, or clocks in a resets field, not strictly ascending"
  is_out_of_order : {e : Entry} {cs : List ℕ} → n ≡ 6 → LineAt bs e cs → ¬ InOrder p.last e → LineFault p bs n
  -- 7 "17th component or 1,025th row"; the 33rd since request 12
  is_too_many : {e : Entry} {cs : List ℕ} → n ≡ 7 → LineAt bs e cs → ¬ Room p.comps e → LineFault p bs n

-- "2, 4 and 5 carry line and column" (02, 2/13): what stands behind the line in the place of n
pub data Carries (p : Progress) (bs : List ℕ) (n : ℕ) (column : List ℕ) : Type 0 where
  wrong_byte : {k : ℕ} → n ≡ 2 → WrongByte bs k → column ≡ k ∷ [] → Carries p bs n column
  range-value : {e : Entry} {cs : List ℕ} {k : ℕ} → n ≡ 4 → LineAt bs e cs → FirstValue (Ranged (states_by (current p) e)) e k → column ≡ k ∷ [] → Carries p bs n column
  name-value : {e : Entry} {cs : List ℕ} {k : ℕ} → n ≡ 5 → LineAt bs e cs → FirstValue (Owned (current p)) e k → column ≡ k ∷ [] → Carries p bs n column
  line-alone : ¬ (n ≡ 2) → ¬ (n ≡ 4) → ¬ (n ≡ 5) → column ≡ [] → Carries p bs n column

-- ---- the lines in their turn
-- what stands before the line behind e
abbrev pub with_line : Progress → Entry → Progress
with_line p e = record { comps = take_in p.comps e; last = some e }

-- the lines of t before line k are faultless, each in its turn; p stands before line k, and the bytes bs are left
pub data Reaches (t : List ℕ) : ℕ → Progress → List ℕ → Type 0 where
  first-line : Reaches t 1 at_start t
  next-line : {k : ℕ} {p : Progress} {bs : List ℕ} {e : Entry} {cs : List ℕ} → Reaches t k p bs → LineAt bs e cs → Faultless p e
      → Reaches t (suc k) (with_line p e) cs

-- t, not too long, has a line k, the lines before it are faultless, and n is its lowest fault, with the column where n carries one
pub record LineFaultAt (t : List ℕ) (n k : ℕ) (column : List ℕ) : Type 0 where
  pub short : length t ≤ max_bytes
  pub progress : Progress
  pub bytes : List ℕ
  pub reached : Reaches t k progress bytes
  pub line : ¬ (bytes ≡ [])
  pub lowest : Lowest (LineFault progress bytes) n
  pub carries : Carries progress bytes n column

-- what is answered to t: a model, or 1, 8, or a line's lowest fault
pub data ReadsAs (t : List ℕ) (a : Answer Model) : Type 0 where
  is-model : (m : Model) → a ≡ answered m → ReadsAs t a
  is-too-long : max_bytes < length t → a ≡ refused (tell 1 (0 ∷ [])) → ReadsAs t a
  is-empty : t ≡ [] → a ≡ refused (tell 8 (0 ∷ [])) → ReadsAs t a
  has-fault : (n k : ℕ) (column : List ℕ) → LineFaultAt t n k column → a ≡ refused (tell n (k ∷ column)) → ReadsAs t a
