-- What a model is (01, "The model text"): ranges, declared names, orders and limits.
use Rattle.std.specs.Prelude.{◌≡◌, Bool, true, false, List, [], ◌∷◌, ℕ, zero, suc, ◌^◌, ◌≤◌, ◌<◌, length, eqb, ltb}
use Rattle.laws.specs.Sets.{◌∈◌, ◌⊆◌, Apart}
use Rattle.answer.specs.Limits.{max_components, max_rows, max_states, max_actions, max_clocks, max_bytes}
use Rattle.model.specs.Model.{Row, Comp, Model, row_at, comp_at, acts, guard_set, row_count}
use Rattle.model.specs.Text.{text_of}

-- the first number that differs decides
unfoldable pub lower : List ℕ → List ℕ → Bool
lower [] ys = false
lower (x ∷ xs) [] = false
lower (x ∷ xs) (y ∷ ys) = elim (eqb x y) [ true ↦ lower xs ys | false ↦ ltb x y ]

-- "`row` lines ascend strictly by from, action, guard (`-` below every clock), resets (read as the sum of 2^x over the clocks x), target"
abbrev pub order : Row → List ℕ
order r = r.from ∷ r.action ∷ r.guard ∷ r.resets ∷ r.target ∷ []

unfoldable pub before : Row → Row → Bool
before r q = lower (order r) (order q)

-- "`row`: .. from and target below states", and it names actions and clocks that its component has
pub record WellRow (c : Comp) (r : Row) : Type 0 where
  pub from : r.from < c.states
  pub guard : guard_set r.guard ⊆ c.clocks
  pub action : r.action ∈ acts c
  pub resets : r.resets ⊆ c.clocks
  pub target : r.target < c.states

pub record WellComp (c : Comp) : Type 0 where
  -- "states (1 to 64), start (below states)"; 128 since request 12
  pub some : 1 ≤ c.states
  pub states : c.states ≤ max_states
  pub start : c.start < c.states
  -- "action (0 to 63), then `in`, `out`, `uin` or `uout`": one of them
  pub ins : c.ins < 2 ^ max_actions
  pub outs : c.outs < 2 ^ max_actions
  pub uins : c.uins < 2 ^ max_actions
  pub uouts : c.uouts < 2 ^ max_actions
  pub ins-outs : Apart c.ins c.outs
  pub ins-uins : Apart c.ins c.uins
  pub ins-uouts : Apart c.ins c.uouts
  pub outs-uins : Apart c.outs c.uins
  pub outs-uouts : Apart c.outs c.uouts
  pub uins-uouts : Apart c.uins c.uouts
  -- "clock (0 to 63), then 1 if set at the start, else 0"
  pub clocks : c.clocks < 2 ^ max_clocks
  pub started : c.started ⊆ c.clocks
  pub rows : (k : ℕ) → k < length c.rows → WellRow c (row_at c k)
  pub ascend : (k : ℕ) → suc k < length c.rows → before (row_at c k) (row_at c (suc k)) ≡ true

-- "A model has 1 to 16 components, at most 1,024 rows in all, and a text of at most 32,768 bytes"; 32 components since request 12
pub record WellFormed (m : Model) : Type 0 where
  pub some : 1 ≤ length m
  pub components : length m ≤ max_components
  pub each : (i : ℕ) → i < length m → WellComp (comp_at m i)
  pub rows : row_count m ≤ max_rows
  pub bytes : length (text_of m) ≤ max_bytes
