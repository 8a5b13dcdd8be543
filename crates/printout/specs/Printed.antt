-- What a program puts into its buffer and writes.
use Rattle.std.specs.Prelude.{◌≡◌, List, ℕ, ◌≤◌, length, take}
use Rattle.print.specs.Put.{Put}

-- put at the front of a buffer that has room for it
pub record Printed (text old new : List ℕ) (r : ℕ) : Type 0 where
  pub put : Put old 0 text new r
  pub room : length text ≤ length old

-- as many bytes of the buffer as the text has, and they are the text
-- The second fact follows from the first: both are there so that the part of the buffer is found to be one.
pub record Filled (text out : List ℕ) (r : ℕ) : Type 0 where
  pub within : r ≤ length out
  pub long : r ≡ length (take r out)
  pub bytes : take r out ≡ text
