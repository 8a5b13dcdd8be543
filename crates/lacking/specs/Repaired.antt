-- What a repaired model and the list of its added rows are, said of any model and any list, so that none that computes need be believed.
use Rattle.std.specs.Prelude.{◌≡◌, ◌⊎◌, ◌↔◌, true, ℕ, suc, ◌≤◌, ◌<◌, length, get_or}
use mathlib.Core.List.{List, Memᴰ as In}
use Rattle.answer.specs.Limits.{max_rows, max_bytes}
use Rattle.model.specs.Model.{Row, Comp, Model, row_at, comp_at, row_count}
use Rattle.model.specs.Text.{text_of}
use Rattle.model.specs.WellFormed.{lower, before}
use Rattle.iosa.specs.Faults.{Broken12}
use Rattle.lacking.specs.Repair.{loop_at, cell}

-- r is a self-loop where a state lacked an input's row: what 12 means
pub record SelfLoop (c : Comp) (r : Row) : Type 0 where
  pub state : ℕ
  pub action : ℕ
  pub lacked : Broken12 c state action
  pub row : r ≡ loop_at state action

-- e is c with all old rows, a self-loop exactly where an input lacked a row, in the order of rows, and "All else stays"
pub record RepairedComp (c e : Comp) : Type 0 where
  pub states : e.states ≡ c.states
  pub start : e.start ≡ c.start
  pub ins : e.ins ≡ c.ins
  pub outs : e.outs ≡ c.outs
  pub uins : e.uins ≡ c.uins
  pub uouts : e.uouts ≡ c.uouts
  pub clocks : e.clocks ≡ c.clocks
  pub started : e.started ≡ c.started
  pub rows : (r : Row) → In r e.rows ↔ (In r c.rows ⊎ SelfLoop c r)
  pub ascend : (k : ℕ) → suc k < length e.rows → before (row_at e k) (row_at e (suc k)) ≡ true

-- x is the component, the state and the action of a row that was added to m
pub record Added (m : Model) (x : List ℕ) : Type 0 where
  pub component : ℕ
  pub state : ℕ
  pub action : ℕ
  pub inside : component < length m
  pub lacked : Broken12 (comp_at m component) state action
  pub bytes : x ≡ cell component state action

-- a model, and the rows that were added to it
pub record Mended : Type 0 where
  pub model : Model
  pub added : List (List ℕ)

pub record MendedAs (m : Model) (d : Mended) : Type 0 where
  pub components : length d.model ≡ length m
  pub each : (i : ℕ) → i < length m → RepairedComp (comp_at m i) (comp_at d.model i)
  pub added : (x : List ℕ) → In x d.added ↔ Added m x
  -- "ascending"
  pub ascend : (k : ℕ) → suc k < length d.added → lower (get_or d.added k (cell 0 0 0)) (get_or d.added (suc k) (cell 0 0 0)) ≡ true

-- not over the limits of a model: its rows and the bytes of its text
pub record Small (n : Model) : Type 0 where
  pub rows : row_count n ≤ max_rows
  pub bytes : length (text_of n) ≤ max_bytes
