-- (f) by the greatest sets: what the start, stability and the rows allow (01, "Conditions on a component", (f)).
use Rattle.std.specs.Prelude.{ℕ, ◌<◌, length}
use Rattle.laws.specs.Sets.{◌∪◌, ◌∖◌, ◌⊆◌}
use Rattle.model.specs.Model.{Row, Comp, row_at, guard_set}
use Rattle.iosa.specs.Checks.{allowed}

-- what row r hands on to its target, of a set for each state: "(active(t) without C) joined with R"
abbrev pub handed : (ℕ → ℕ) → Row → ℕ
handed A r = A r.from ∖ guard_set r.guard ∪ r.resets

-- the sets keep to all of (f) but that enabling(s) lies within active(s)
pub record Allows (c : Comp) (A : ℕ → ℕ) : Type 0 where
  pub within : (s : ℕ) → s < c.states → A s ⊆ allowed c s
  pub kept : (k : ℕ) → k < length c.rows → A (row_at c k).target ⊆ handed A (row_at c k)

-- all sets that keep to it lie within A
pub record Above (c : Comp) (A : ℕ → ℕ) : Type 0 where
  pub all : (B : ℕ → ℕ) → Allows c B → (s : ℕ) → s < c.states → B s ⊆ A s

-- the greatest sets
pub record Greatest (c : Comp) (A : ℕ → ℕ) : Type 0 where
  pub allows : Allows c A
  pub above : Above c A
