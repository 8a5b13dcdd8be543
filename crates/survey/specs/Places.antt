-- The place of a line's fault (02, 2/13): "2, 4 and 5 carry line and column", 3, 6 and 7 the line alone.
use Rattle.std.specs.Prelude.{cond, List, ℕ, ◌-◌, ◌^◌, eqb}
use Rattle.sets.specs.Members.{word_bits}
use Rattle.model.specs.Reading.{Scan, is, stops}
use Rattle.answer.specs.declared.Refusal.{Refusal}
use Rattle.answer.specs.declared.Place.{Place}
use Rattle.answer.specs.declared.Place.TheVariants.{Line, Spot}
use Rattle.lines.specs.declared.Line.{Line as CodeLine}
use Rattle.columns.specs.declared.Allowed.{Allowed}
use Rattle.columns.specs.Columns.{value_column}
use Rattle.judge.specs.declared.Progress.{Progress}

-- what a line's values may be: for 4 every action and clock there is, else those of the component
abbrev pub allowed_of : Progress → ℕ → Allowed
allowed_of p f = cond (eqb f 4) (record { states = p.states; acts = 2 ^ word_bits - 1; clocks = 2 ^ word_bits - 1 }) (record { states = p.states; acts = p.acts; clocks = p.clocks })

abbrev pub place_of : ℕ → ℕ → ℕ → Place
place_of n f k = cond (eqb f 4) (Spot n k) (cond (eqb f 5) (Spot n k) (Line n))

-- the column of a line that was found; 0 where there is none, of which the code never asks
abbrev pub column_in : List ℕ → ℕ → Allowed → Scan CodeLine → ℕ
column_in t at a (is g) = value_column t at a g.value
column_in t at a (stops cs) = 0

-- 2 at a line and a column, and a fault of a line of good shape
abbrev pub shapeless : ℕ → ℕ → Refusal
shapeless n k = record { number = 2; place = Spot n k }

abbrev pub faulty : ℕ → ℕ → ℕ → Refusal
faulty n f k = record { number = f; place = place_of n f k }
