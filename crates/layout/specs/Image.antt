-- The image of a model, and the model of an image.
use Rattle.std.specs.Prelude.{◌≡◌, cond, List, [], ◌∷◌, ◌++◌, ℕ, suc, ◌+◌, ◌*◌, ◌-◌, ◌≤◌, length, take, replicate, ltb, leb}
use Rattle.laws.specs.Fold.{tab, spread}
use Rattle.answer.specs.Limits.{max_components, max_rows, max_states}
use Rattle.answer.specs.Told.{Told, tell}
use Rattle.model.specs.Model.{Row, Comp, Model, row_count}
use Rattle.model.specs.WellFormed.{WellFormed}
use Rattle.layout.specs.Layout.{block_words, row_words, image_words, count_of, block_word, first_of, action_at, guard_at, resets_at, target_at}

-- ---- from a model to words
-- how many of the rows leave a state below s
unfoldable pub leave_below : List Row → ℕ → ℕ
leave_below [] s = 0
leave_below (r ∷ rs) s = cond (ltb r.from s) 1 0 + leave_below rs s

-- first[s], where n rows stand before the component's; zero above states
unfoldable pub first_word : ℕ → Comp → ℕ → ℕ
first_word n c s = cond (leb s c.states) (n + leave_below c.rows s) 0

unfoldable pub block_of : ℕ → Comp → List ℕ
block_of n c =
    c.states ∷ c.start ∷ c.ins ∷ c.outs ∷ c.uins ∷ c.uouts ∷ c.clocks ∷ c.started ∷ tab (first_word n c) 0 (suc max_states)

-- the blocks, where n rows stand before the first component's
unfoldable pub blocks_of : ℕ → Model → List ℕ
blocks_of n [] = []
blocks_of n (c ∷ cs) = block_of n c ++ blocks_of (n + length c.rows) cs

unfoldable pub rows_of : List Row → List ℕ
rows_of [] = []
rows_of (r ∷ rs) = r.action ∷ r.guard ∷ r.resets ∷ r.target ∷ rows_of rs

unfoldable pub all_rows_of : Model → List ℕ
all_rows_of [] = []
all_rows_of (c ∷ cs) = rows_of c.rows ++ all_rows_of cs

-- "unused places are zero"
unfoldable pub zeros : ℕ → List ℕ
zeros n = replicate n 0

unfoldable pub image_of : Model → List ℕ
image_of m =
    length m ∷ (blocks_of 0 m ++ zeros (block_words * (max_components - length m))) ++ all_rows_of m ++ zeros (row_words * (max_rows - row_count m))

-- ---- from words to a model
-- row r of the system, as one that leaves s
abbrev pub row_in : List ℕ → ℕ → ℕ → Row
row_in t s r = record { from = s; guard = guard_at t r; action = action_at t r; resets = resets_at t r; target = target_at t r }

-- the rows that leave s: first[s] up to first[s + 1]
unfoldable pub rows_leaving : List ℕ → ℕ → ℕ → List Row
rows_leaving t i s = tab (row_in t s) (first_of t i s) (first_of t i (suc s) - first_of t i s)

unfoldable pub comp_of : List ℕ → ℕ → Comp
comp_of t i = record {
  states = block_word t i 0;
  start = block_word t i 1;
  ins = block_word t i 2;
  outs = block_word t i 3;
  uins = block_word t i 4;
  uouts = block_word t i 5;
  clocks = block_word t i 6;
  started = block_word t i 7;
  rows = spread (rows_leaving t i) 0 (block_word t i 0);
}

unfoldable pub model_of : List ℕ → Model
model_of t = tab (comp_of t) 0 (count_of t)

-- ---- "one model has one image": the front of a table is the image of some model
pub record Image (t : List ℕ) : Type 0 where
  pub model : Model
  pub well : WellFormed model
  pub front : take image_words t ≡ image_of model

-- 20 "table is no image", place 0
abbrev pub no_image : Told
no_image = tell 20 (0 ∷ [])

-- ---- what the code below the recogniser asks of a table: its length, and ranges that keep every index and cast in bounds
pub record Sane (t : List ℕ) : Type 0 where
  pub long : image_words ≤ length t
  pub count : count_of t ≤ max_components
  pub states : (i : ℕ) → suc i ≤ max_components → block_word t i 0 ≤ max_states
  pub firsts : (i s : ℕ) → suc i ≤ max_components → s ≤ max_states → first_of t i s ≤ max_rows
