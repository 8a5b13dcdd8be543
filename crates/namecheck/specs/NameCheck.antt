-- What a check of a whole text of the second form answers: that it is good, with its old lines, or what reading it refuses.
use Rattle.std.specs.Prelude.{List, ℕ, Ok, Err}
use Rattle.answer.specs.Told.{Answer, Written}
use Rattle.named.specs.ReadNamed.{Read}
use Rattle.namelaws.specs.Sheets.{Refuses}
use Rattle.namelaws.specs.OldLines.{GoodText}

abbrev pub ChecksAs : List ℕ → Answer Read → List ℕ → Written → Type 0
ChecksAs t o places (Ok at) = GoodText t o places at
ChecksAs t o places (Err f) = Refuses o f
