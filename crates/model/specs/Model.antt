-- The model of paper 01 ("The model text"): components, and their rows.
use Rattle.std.specs.Prelude.{List, [], ◌∷◌, ℕ, zero, suc, ◌+◌, length, get_or}
use Rattle.laws.specs.Sets.{◌∪◌, only}

-- "`row`: from, guard (a clock or `-`), action, resets, target"; guard is 0 for `-` and x + 1 for clock x, resets is a set
pub record Row : Type 0 where
  pub from : ℕ
  pub guard : ℕ
  pub action : ℕ
  pub resets : ℕ
  pub target : ℕ

-- "`comp`: states, start", its `act` lines as four sets, its `clk` lines as two, and its `row` lines in their order
pub record Comp : Type 0 where
  pub states : ℕ
  pub start : ℕ
  pub ins : ℕ
  pub outs : ℕ
  pub uins : ℕ
  pub uouts : ℕ
  pub clocks : ℕ
  pub started : ℕ
  pub rows : List Row

abbrev pub Model : Type 0
Model = List Comp

abbrev pub no_row : Row
no_row = record { from = 0; guard = 0; action = 0; resets = 0; target = 0 }

abbrev pub no_comp : Comp
no_comp = record { states = 0; start = 0; ins = 0; outs = 0; uins = 0; uouts = 0; clocks = 0; started = 0; rows = [] }

abbrev pub row_at : Comp → ℕ → Row
row_at c k = get_or c.rows k no_row

abbrev pub comp_at : Model → ℕ → Comp
comp_at m i = get_or m i no_comp

-- "`in`, `out`, `uin` or `uout`"; "`u` means urgent"
abbrev pub inputs : Comp → ℕ
inputs c = c.ins ∪ c.uins

abbrev pub outputs : Comp → ℕ
outputs c = c.outs ∪ c.uouts

abbrev pub urgents : Comp → ℕ
urgents c = c.uins ∪ c.uouts

abbrev pub acts : Comp → ℕ
acts c = inputs c ∪ outputs c

-- a guard as a set of clocks: none, or one
abbrev pub guard_set : ℕ → ℕ
guard_set zero = 0
guard_set (suc x) = only x

-- the clocks declared in the system
unfoldable pub declared : Model → ℕ
declared [] = 0
declared (c ∷ cs) = c.clocks ∪ declared cs

-- "at most 1,024 rows in all"
unfoldable pub row_count : Model → ℕ
row_count [] = 0
row_count (c ∷ cs) = length c.rows + row_count cs
