-- The lowest number of a kind.
use Rattle.std.specs.Prelude.{ℕ, ◌<◌}

-- P holds of x, and of no lower number
pub record Lowest (P : ℕ → Type 0) (x : ℕ) : Type 0 where
  pub here : P x
  pub before : (y : ℕ) → y < x → P y → ⊥
