-- So many words behind the words before the rows, raised by so many.
use Rattle.std.specs.Prelude.{◌≡◌, List, ℕ, ◌+◌, ◌≤◌, ◌<◌, length, get_or}
use Rattle.layout.specs.Layout.{rows_at}

pub record Raised (t u : List ℕ) (words by : ℕ) : Type 0 where
  pub long : length u ≡ length t
  pub moved : (x : ℕ) → x < words → get_or u (rows_at + (by + x)) 0 ≡ get_or t (rows_at + x) 0
  pub below : (x : ℕ) → x < rows_at + by → get_or u x 0 ≡ get_or t x 0
  pub above : (x : ℕ) → rows_at + (by + words) ≤ x → get_or u x 0 ≡ get_or t x 0
