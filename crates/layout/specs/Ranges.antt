-- The ranges that an image keeps (docs/TABLE.md): what a caller may count on for indices, casts and sets.
use Rattle.std.proofs.Math.Option.{Option}
use Rattle.std.specs.Prelude.{Bool, ◌&&◌, ℕ, suc, ◌≤◌, ◌<◌, List}
use Rattle.laws.specs.Sets.{has, ◌∈◌, ◌⊆◌}
use Rattle.laws.specs.Search.{seek, when, is_some}
use Rattle.answer.specs.Limits.{max_states, max_rows, max_actions, max_clocks}
use Rattle.model.specs.Model.{acts, guard_set}
use Rattle.iosa.specs.Checks.{row_for}
use Rattle.layout.specs.Layout.{block_word, first_of, action_at, guard_at, resets_at, target_at}
use Rattle.layout.specs.Image.{comp_of}

-- component i: "states (1 to 64), start (below states)" (128 since request 12), and the ranges of its rows in their order
pub record CompRanges (t : List ℕ) (i : ℕ) : Type 0 where
  pub some : 1 ≤ block_word t i 0
  pub states : block_word t i 0 ≤ max_states
  pub start : block_word t i 1 < block_word t i 0
  pub up : (s u : ℕ) → s ≤ u → u ≤ block_word t i 0 → first_of t i s ≤ first_of t i u
  pub rows : (s : ℕ) → s ≤ block_word t i 0 → first_of t i s ≤ max_rows

-- row r of component i: "action (0 to 63)", "clock (0 to 63)", target below states, and names that the component has
pub record RowRanges (t : List ℕ) (i r : ℕ) : Type 0 where
  pub place : r < max_rows
  pub action : action_at t r < max_actions
  pub guard : guard_at t r ≤ max_clocks
  pub target : target_at t r < block_word t i 0
  pub known : action_at t r ∈ acts (comp_of t i)
  pub clock : guard_set (guard_at t r) ⊆ block_word t i 6
  pub resets : resets_at t r ⊆ block_word t i 6

-- the first row of the range of s with an action of S
abbrev pub first_by : List ℕ → ℕ → ℕ → ℕ → Option ℕ
first_by t i s S = seek (λ r. when (has S (action_at t r)) r) (first_of t i s) (first_of t i (suc s))

-- an action of S that leaves s
abbrev pub leaves_by : List ℕ → ℕ → ℕ → ℕ → ℕ → Bool
leaves_by t i s S a = has S a && is_some (row_for (comp_of t i) s a)
