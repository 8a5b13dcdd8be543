-- What the scans of a file of distributions find: the value and the bytes behind it, or the bytes from where it stopped.
use Rattle.std.specs.Prelude.{◌≡◌, cond, List, ℕ, ◌+◌, ◌-◌, drop, Float, Result, Ok, Err}
use Rattle.std.proofs.Math.Option.{Option, none, some}
use Rattle.model.specs.Text.{byte0}
use Rattle.model.specs.Reading.{Got, Scan, is, stops, got, is_digit}
use Rattle.fields.specs.declared.Cursor.{Cursor}
use Rattle.fields.specs.Fields.{scanned}
use Rattle.draw.specs.declared.Law.{Law}
use Rattle.drawing.specs.File.{byte_a, is_letter, Range, law_at, line_at}

-- what a byte is as a digit, or 16
unfoldable pub digit_of : ℕ → ℕ
digit_of b = cond (is_digit b) (b - byte0) (cond (is_letter b) (b - byte_a + 10) 16)

-- a scan without the place where it stopped
abbrev pub found : {A : Type 0} → Scan A → Option (Got A)
found (is g) = some g
found (stops cs) = none

abbrev pub got_real : List ℕ → Result (Cursor × Float) Cursor → Scan Float
got_real t r = scanned (λ x. x) t r

abbrev pub range_of : Float × Float → Range
range_of p = record { lower = p.0; upper = p.1 }

abbrev pub got_range : List ℕ → Result (Cursor × (Float × Float)) Cursor → Scan Range
got_range t r = scanned range_of t r

abbrev pub got_law : List ℕ → Result (Cursor × Law) Cursor → Scan Law
got_law t r = scanned (λ l. l) t r

-- the distribution at a cursor, if there is one
abbrev pub value_in : Option (Got Law) → Option Law
value_in none = none
value_in (some g) = some g.value

unfoldable pub law_in : List ℕ → ℕ → Option Law
law_in t at = value_in (found (law_at (drop at t)))

-- a good line: its distribution stands at b, and the next line begins at e; or a bad one
pub record LineIs (x : ℕ) (t : List ℕ) (at b e : ℕ) : Type 0 where
  pub law : Law
  pub line : line_at x (drop at t) ≡ got law (drop e t)
  pub stands : law_in t b ≡ some law

abbrev pub LineGives : ℕ → List ℕ → ℕ → Result (Cursor × Cursor) Cursor → Type 0
LineGives x t at (Ok p) = LineIs x t at p.1.at p.0.at
LineGives x t at (Err e) = line_at x (drop at t) ≡ stops (drop e.at t)
