-- A refusal as it stands in an answer: "A refusal returns its number and place" and nothing else.
use Rattle.std.specs.Prelude.{ℕ}
use Rattle.answer.specs.declared.Refusal.{Refusal}
use Rattle.answer.specs.declared.Place.TheVariants.{Whole, Bytes}

-- a refusal of the whole, place 0
abbrev pub whole_at : ℕ → Refusal
whole_at n = record { number = n; place = Whole }

-- 24, place the bytes needed
abbrev pub bytes_at : ℕ → Refusal
bytes_at n = record { number = 24; place = Bytes n }
