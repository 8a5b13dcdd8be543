-- Clock values by a set of clocks: what the loops over the 64 values compute (01, "The timed step"; 28 to 30).
use Rattle.std.specs.Prelude as Answered
use Rattle.std.specs.Prelude.{Some, None, ◌≡◌, Bool, true, ◌&&◌, not, cond, List, ℕ, length, eqb, ℤ, pos}
use Rattle.std.proofs.Math.Option.{Option, none, some}
use Rattle.std.specs.Int.Signed.{lt_z, le_z}
use Rattle.laws.specs.Sets.{has, ◌∈◌}
use Rattle.answer.specs.Limits.{max_clocks, max_ticks}
use Rattle.timing.specs.Timed.{fallen}
use Rattle.iosa.specs.TimedExactly.{floor, value_of}

-- "-2^40 to 2^40"
pub record Tick (z : ℤ) : Type 0 where
  pub low : le_z floor z ≡ true
  pub high : le_z z (pos max_ticks) ≡ true

-- 64 values, those of the set d in range
pub record Ticking (d : ℕ) (vs : List ℤ) : Type 0 where
  pub count : length vs ≡ max_clocks
  pub each : (x : ℕ) → x ∈ d → Tick (value_of vs x)

-- one clock's value z: outside the range of 28
unfoldable pub outside : ℕ → ℕ → ℤ → Bool
outside d x z = has d x && not (le_z floor z && le_z z (pos max_ticks))

-- below zero (29)
unfoldable pub negative : ℕ → ℕ → ℤ → Bool
negative e x z = has e x && lt_z z (pos 0)

-- another clock than x, of a value not above v (30)
unfoldable pub rivals : ℕ → ℕ → ℤ → ℕ → ℤ → Bool
rivals e x v y z = has e y && (not (eqb y x) && le_z z v)

-- what the engine answers of a search for a clock
abbrev pub Clock : Type 0
Clock = Answered.Option ℕ

abbrev pub clock_of : Option ℕ → Clock
clock_of none = None
clock_of (some x) = Some x

-- of clock b, if there is one, and clock x, the one with the lesser value
unfoldable pub better_of : ℕ → List ℤ → Clock → ℕ → Clock
better_of e vs None x = cond (has e x) (Some x) None
better_of e vs (Some b) x = cond (has e x && lt_z (value_of vs x) (value_of vs b)) (Some x) (Some b)

-- one clock's value after v ticks
unfoldable pub aged_one : ℕ → ℤ → ℕ → ℤ → ℤ
aged_one d v x z = cond (has d x) (fallen v z) z

-- a test of the values' clocks, one by one
abbrev pub by_value : (ℕ → ℤ → Bool) → List ℤ → ℕ → Bool
by_value f vs x = f x (value_of vs x)
