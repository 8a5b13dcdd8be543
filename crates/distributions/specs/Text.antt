-- What the scan of a whole file finds: 49 at a line, or where the distribution of each clock stands.
use Rattle.std.specs.Prelude.{◌≡◌, true, false, List, ℕ, suc, ◌<◌, length, get_or, drop, Result, Ok, Err}
use Rattle.std.proofs.Math.Option.{Option, none, some}
use Rattle.laws.specs.Sets.{has}
use Rattle.answer.specs.Limits.{max_clocks}
use Rattle.answer.specs.Told.{Answer, answered, refused, says_checked}
use Rattle.answer.specs.Told.{Checked}
use Rattle.answer.specs.declared.Refusal.{Refusal}
use Rattle.model.specs.Reading.{stops}
use Rattle.fields.specs.declared.Cursor.{Cursor}
use Rattle.answer.specs.declared.Place.TheVariants as OfPlace
use Rattle.draw.specs.declared.Law.{Law}
use Rattle.drawing.specs.File.{line_at}
use Rattle.distributions.specs.declared.Spot.{Spot}
use Rattle.distributions.specs.Found.{law_in, LineIs}

-- clock x is declared and its line is good, or it is not declared and has none; q is where the next line is looked for
pub data Begun (d x : ℕ) (t : List ℕ) (p : Spot) (b : ℕ) (q : Spot) : Type 0 where
  in-line : has d x ≡ true → q.line ≡ suc p.line → LineIs x t p.at b q.at → Begun d x t p b q
  no_line : has d x ≡ false → q ≡ p → law_in t b ≡ none → Begun d x t p b q

abbrev pub TurnGives : ℕ → ℕ → List ℕ → Spot → Result (Spot × ℕ) Cursor → Type 0
TurnGives d x t p (Ok q) = Begun d x t p q.1 q.0
TurnGives d x t p (Err e) = (has d x ≡ true) × (line_at x (drop p.at t) ≡ stops (drop e.at t))

-- 49 at a line
abbrev pub bad_line : ℕ → Refusal
bad_line n = record { number = 49; place = OfPlace.Line n }

-- at each clock's place stands its distribution
pub record Placed (t : List ℕ) (ls : List (Option Law)) (at : List ℕ) : Type 0 where
  pub count : length at ≡ max_clocks
  pub each : (x : ℕ) → x < max_clocks → law_in t (get_or at x 0) ≡ get_or ls x none

-- 49, or the distributions
abbrev pub Scans : Answer (List (Option Law)) → List ℕ → Checked → List ℕ → Type 0
Scans (refused f) t r at = says_checked r ≡ some (refused f)
Scans (answered ls) t r at = (says_checked r ≡ some (answered tt)) × Placed t ls at
