-- The old lines of the bytes behind the `name` lines, by a lookup of names; and what a check of the whole text answers.
use Rattle.std.specs.Prelude.{◌≡◌, List, [], ◌∷◌, ℕ, zero, suc, ◌≤◌, length, drop}
use Rattle.std.proofs.Math.Option.{Option, none, some}
use Rattle.laws.specs.Search.{map_some}
use Rattle.answer.specs.Limits.{max_actions, max_bytes}
use Rattle.answer.specs.Told.{Answer, answered}
use Rattle.model.specs.Reading.{Got, Scan, is, stops, Entry}
use Rattle.named.specs.NamedText.{Name, Line, line}
use Rattle.named.specs.ReadNamed.{resolve_by, Read}
use Rattle.namefields.specs.NameFields.{number_by}

abbrev pub old_of : (Name → Option ℕ) → Scan Line → Option (Got Entry)
old_of f (stops cs) = none
old_of f (is g) = map_some (λ e. record { value = e; rest = g.rest }) (resolve_by f g.value)

unfoldable pub old_from : (Name → Option ℕ) → ℕ → List ℕ → List Entry
old_from f zero bs = []
old_from f (suc k) bs = elim (old_of f (line bs)) [ none ↦ [] | some g ↦ g.value ∷ old_from f k g.rest ]

abbrev pub old_lines : List ℕ → List ℕ → ℕ → List Entry
old_lines t places at = old_from (number_by t places) (length (drop at t)) (drop at t)

-- the text is good: what it says, and its old lines from a place on
pub record GoodText (t : List ℕ) (o : Answer Read) (places : List ℕ) (at : ℕ) : Type 0 where
  pub it : Read
  pub read : o ≡ answered it
  pub long : length places ≡ max_actions
  pub inside : at ≤ length t
  pub short : length t ≤ max_bytes
  pub old : it.lines ≡ old_lines t places at
