-- Going on from number to number.
use Rattle.std.specs.Prelude.{ℕ, ◌<◌}

-- from a to b by E, by way of numbers below n only
pub data Way (E : ℕ → ℕ → Type 0) (n : ℕ) : ℕ → ℕ → Type 0 where
  edge : {a b : ℕ} → E a b → Way E n a b
  join : {a k b : ℕ} → k < n → Way E n a k → Way E n k b → Way E n a b
