-- What a draw at a place of the file gives.
use Rattle.std.specs.Prelude as Answered
use Rattle.std.specs.Prelude.{Some, None, ◌≡◌, ℕ, ◌+◌, ◌≤◌}
use Rattle.std.proofs.Math.Option.{Option, none, some}
use Rattle.answer.specs.Limits.{max_ticks}
use Rattle.draw.specs.declared.Law.{Law}
use Rattle.drawing.specs.Draws.{draw_from, takes}

-- a number of a clock, if it is lent
abbrev pub number_in : Answered.Option ℕ → Option ℕ
number_in (Some n) = some n
number_in None = none

-- how many numbers a draw takes
abbrev pub OneNumber : Law → Type 0
OneNumber l = takes l ≡ 1

abbrev pub TwoNumbers : Law → Type 0
TwoNumbers l = takes l ≡ 2

-- a draw by the numbers f from u on, if there is a distribution
abbrev pub from_law : Option Law → (ℕ → Option ℕ) → ℕ → Option ℕ
from_law none f u = none
from_law (some l) f u = draw_from l f u

abbrev pub takes_of : Option Law → ℕ
takes_of none = 0
takes_of (some l) = takes l

pub record DrawIs (o : Option Law) (f : ℕ → Option ℕ) (u v w : ℕ) : Type 0 where
  pub ticks : from_law o f u ≡ some v
  pub used : w ≡ u + takes_of o
  pub most : v ≤ max_ticks

-- the ticks, and how many numbers the clock has taken then; or nothing, where there are not enough
abbrev pub DrawGives : Option Law → (ℕ → Option ℕ) → ℕ → Answered.Option (ℕ × ℕ) → Type 0
DrawGives o f u (Some d) = DrawIs o f u d.0 d.1
DrawGives o f u None = from_law o f u ≡ none
