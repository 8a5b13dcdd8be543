-- The samples of a simulation over draws (02, 13/13): "Simulation takes lists or draws, each clock with lent numbers of its own".
use Rattle.std.proofs.Math.Option.{Option, none, some}
use Rattle.std.specs.Prelude.{List, ℕ, ◌+◌, ◌*◌, get_or}
use Rattle.answer.specs.Limits.{max_clocks}
use Rattle.simulation.specs.Simulate.{Supply}
use Rattle.simulation.specs.Samples.{nth}
use Rattle.draw.specs.declared.Law.{Law}
use Rattle.draw.specs.declared.Law.TheVariants.{Uniform, Mixture}
use Rattle.draw.specs.Draw.{drawn}

-- number k of clock x is word 64 k + x of the lent numbers, if there is one
unfoldable pub lent : List ℕ → ℕ → ℕ → Option ℕ
lent ns x k = nth ns (max_clocks * k + x)

-- a draw by two numbers, where both are there
abbrev pub by_two : Law → Option ℕ → Option ℕ → Option ℕ
by_two l none o = none
by_two l (some m) none = none
by_two l (some m) (some n) = some (drawn l m n)

-- a draw by the numbers from u on: "`mix` uses one number to pick .., and a second for the range"
unfoldable pub draw_from : Law → (ℕ → Option ℕ) → ℕ → Option ℕ
draw_from (Uniform a b) f u = by_two (Uniform a b) (f u) (f u)
draw_from (Mixture w a b c d) f u = by_two (Mixture w a b c d) (f u) (f (u + 1))

-- so many numbers are taken then
abbrev pub takes : Law → ℕ
takes (Uniform a b) = 1
takes (Mixture w a b c d) = 2

-- draw j, counted from 0: by number j, or by the numbers 2 j and 2 j + 1
unfoldable pub draw_at : Law → (ℕ → Option ℕ) → ℕ → Option ℕ
draw_at l f j = draw_from l f (takes l * j)

abbrev pub draw_of : Option Law → (ℕ → Option ℕ) → ℕ → Option ℕ
draw_of none f j = none
draw_of (some l) f j = draw_at l f j

-- "50 lent numbers used up"
abbrev pub draws : List (Option Law) → List ℕ → Supply
draws ls ns = record { sample = λ x j. draw_of (get_or ls x none) (lent ns x) j; ran_out = 50 }
