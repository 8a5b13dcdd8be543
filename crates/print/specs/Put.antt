-- Bytes put into a lent buffer: they stand from a place on, and the rest is as it was.
use Rattle.std.specs.Prelude.{◌≡◌, cond, List, [], ◌∷◌, ◌++◌, ℕ, ◌+◌, ◌/◌, ◌%◌, ◌≤◌, length, take, drop, ltb}
use Rattle.model.specs.Text.{byte0}

-- the buffer with these bytes from a place on
unfoldable pub laid : List ℕ → ℕ → List ℕ → List ℕ
laid old at bytes = take at old ++ bytes ++ drop (at + length bytes) old

-- the bytes fit from that place on
abbrev pub Room : List ℕ → ℕ → List ℕ → Type 0
Room old at bytes = at + length bytes ≤ length old

-- the bytes were put there, and next is the place behind them
pub record Put (old : List ℕ) (at : ℕ) (bytes new : List ℕ) (next : ℕ) : Type 0 where
  pub buffer : new ≡ laid old at bytes
  pub place : next ≡ at + length bytes

-- "no needless zero in front": the digit of a scale, where the number reaches it
unfoldable pub leading : ℕ → ℕ → List ℕ
leading n scale = cond (ltb n scale) [] ((byte0 + n / scale % 10) ∷ [])
