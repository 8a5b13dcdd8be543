-- What the call `read` answers on every input, and what it leaves in the table (01, "Refusal numbers": 1; lines in file order; 8; 24).
use Rattle.std.specs.Prelude.{◌≡◌, true, false, List, ℕ, length, ltb}
use Rattle.std.proofs.Math.Option.{some}
use Rattle.answer.specs.Told.{Answer, answered, refused, says_checked, done_of}
use Rattle.answer.specs.Told.{Checked}
use Rattle.model.specs.Model.{Model}
use Rattle.model.specs.Reading.{read_of}
use Rattle.layout.specs.Layout.{image_words}
use Rattle.layout.specs.Lent.{table_too_short, table_after}

-- the refusal of the text, then 24, else the model
abbrev pub room_for : ℕ → Answer Model → Answer Model
room_for room (refused f) = refused f
room_for room (answered m) = elim (ltb room image_words) [ true ↦ refused table_too_short | false ↦ answered m ]

unfoldable pub read_on : List ℕ → List ℕ → Answer Model
read_on t old = room_for (length old) (read_of t)

pub record ReadCall (t old new : List ℕ) (r : Checked) : Type 0 where
  pub answer : says_checked r ≡ some (done_of (read_on t old))
  pub table : new ≡ table_after (read_on t old) old
