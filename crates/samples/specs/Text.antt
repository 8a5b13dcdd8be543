-- What the scan of a whole sample text finds: 40 at a line, or where each clock's samples begin.
use Rattle.std.specs.Prelude.{◌≡◌, List, [], ℕ, suc, ◌<◌, length, get_or, drop, true, false, Result, Ok, Err}
use Rattle.std.proofs.Math.Option.{some}
use Rattle.laws.specs.Sets.{has}
use Rattle.answer.specs.Limits.{max_clocks}
use Rattle.answer.specs.Told.{Answer, answered, refused, says_checked}
use Rattle.answer.specs.Told.{Checked}
use Rattle.answer.specs.declared.Refusal.{Refusal}
use Rattle.answer.specs.declared.Place.TheVariants as OfPlace
use Rattle.fields.specs.declared.Cursor.{Cursor}
use Rattle.samples.specs.declared.Spot.{Spot}
use Rattle.samples.specs.Lines.{Left, LineIs, LineBad}

-- clock x is declared and its line is good, or it is not declared and has no samples; q is where the next line is looked for
pub data Begun (d x : ℕ) (t : List ℕ) (p : Spot) (b : ℕ) (q : Spot) : Type 0 where
  in-line : has d x ≡ true → q.line ≡ suc p.line → LineIs x t p.at b q.at → Begun d x t p b q
  no_line : has d x ≡ false → q ≡ p → Left (drop b t) [] → Begun d x t p b q

abbrev pub TurnGives : ℕ → ℕ → List ℕ → Spot → Result (Spot × ℕ) Cursor → Type 0
TurnGives d x t p (Ok q) = Begun d x t p q.1 q.0
TurnGives d x t p (Err e) = (has d x ≡ true) × LineBad x t p.at

-- 40 at a line
abbrev pub bad_line : ℕ → Refusal
bad_line n = record { number = 40; place = OfPlace.Line n }

-- the cursors, one for each clock, stand at the samples of its list
pub record Feeds (t : List ℕ) (ls : List (List ℕ)) (at : List ℕ) : Type 0 where
  pub count : length at ≡ max_clocks
  pub each : (x : ℕ) → x < max_clocks → Left (drop (get_or at x 0) t) (get_or ls x [])

-- 40, or the lists, at whose samples the cursors stand
abbrev pub Scans : Answer (List (List ℕ)) → List ℕ → Checked → List ℕ → Type 0
Scans (refused f) t r at = says_checked r ≡ some (refused f)
Scans (answered ls) t r at = (says_checked r ≡ some (answered tt)) × Feeds t ls at
