-- What the program writes: as many bytes of its buffer as the report has, and they are the report on the input.
-- The second fact follows from the first: both are there so that the part of the buffer is found to be one.
use Rattle.std.specs.Prelude.{◌≡◌, List, ℕ, ◌≤◌, length, take}
use Rattle.answering.specs.Report.{report_of}

pub record Filled (input out : List ℕ) (r : ℕ) : Type 0 where
  pub within : r ≤ length out
  pub long : r ≡ length (take r out)
  pub report : take r out ≡ report_of input
