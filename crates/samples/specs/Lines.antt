-- What the scans of a sample text find: whether a number is in range, whether a line is good, and where its samples begin.
use Rattle.std.specs.Prelude.{◌≡◌, List, [], ◌∷◌, ℕ, drop, Result, Ok, Err}
use Rattle.model.specs.Reading.{Scan, is, stops, got, field}
use Rattle.fields.specs.declared.Cursor.{Cursor}
use Rattle.simulation.specs.Samples.{sample_at, line_at}

-- a scan without its value
abbrev pub done : {A : Type 0} → Scan A → Scan (Unit {0})
done (is g) = got tt g.rest
done (stops cs) = stops cs

-- the samples that stand at the front of these bytes, each behind a tab, are ns
pub data Left : List ℕ → List ℕ → Type 0 where
  over : {bs cs : List ℕ} → field sample_at bs ≡ stops cs → Left bs []
  more : {n : ℕ} {bs cs ns : List ℕ} → field sample_at bs ≡ got n cs → Left cs ns → Left bs (n ∷ ns)

-- a good line: its samples stand at b, and the next line begins at e; or a bad one
pub record LineIs (x : ℕ) (t : List ℕ) (at b e : ℕ) : Type 0 where
  pub samples : List ℕ
  pub line : line_at x (drop at t) ≡ got samples (drop e t)
  pub left : Left (drop b t) samples

pub record LineBad (x : ℕ) (t : List ℕ) (at : ℕ) : Type 0 where
  pub stop : List ℕ
  pub line : line_at x (drop at t) ≡ stops stop

abbrev pub LineGives : ℕ → List ℕ → ℕ → Result (Cursor × Cursor) Cursor → Type 0
LineGives x t at (Ok p) = LineIs x t at p.1.at p.0.at
LineGives x t at (Err e) = LineBad x t at
