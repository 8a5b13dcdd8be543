-- The `name` lines as the code keeps them: where the name of each action stands, 0 for none.
use Rattle.std.specs.Prelude.{◌≡◌, List, [], ◌∷◌, Bool, true, false, not, cond, ℕ, zero, suc, ◌+◌, ◌≤◌, ◌<◌, length, drop, get_or, eqb, ltb, leb}
use Rattle.std.proofs.Math.Option.{Option, none, some}
use Rattle.laws.specs.Sets.{has}
use Rattle.laws.specs.Search.{is_some}
use Rattle.answer.specs.Limits.{max_actions}
use Rattle.answer.specs.Told.{Told, Answer, refused, told}
use Rattle.answer.specs.declared.Place.TheVariants.{Line as AtLine, Spot}
use Rattle.answer.specs.declared.Refusal.{Refusal}
use Rattle.model.specs.Reading.{Scan, is, stops, got, exactly, at_start}
use Rattle.named.specs.NamedText.{good_name, name_word, Sheet, name-line, line}
use Rattle.named.specs.ReadNamed.{Progress₂, Read, above, lines_from₂, begun}
use Rattle.namefields.specs.NameFields.{name_from, number_by}
use Rattle.namelines.specs.declared.NamedLine.{NamedLine}
use Rattle.namelines.specs.declared.NamedLine.TheVariants.{Form, Name, Act, Row, Plain}

-- the sheet of the actions below n
unfoldable pub sheet_by : List ℕ → List ℕ → ℕ → Sheet
sheet_by t places zero = []
sheet_by t places (suc n) =
    cond (eqb (get_or places n 0) 0) (sheet_by t places n) (record { number = n; name = name_from t (get_or places n 0) } ∷ sheet_by t places n)

abbrev pub sheet_of : List ℕ → List ℕ → Sheet
sheet_of t places = sheet_by t places max_actions

-- a word stands in front
abbrev pub there : Scan (Unit {0}) → Bool
there (is g) = true
there (stops cs) = false

abbrev pub begins_name : List ℕ → Bool
begins_name bs = there (exactly name_word bs)

abbrev pub number_in : NamedLine → ℕ
number_in Form = 0
number_in (Name n) = n
number_in (Act k) = 0
number_in (Row s g r t) = 0
number_in (Plain l) = 0

-- 4, 6 or 43; 0 where there is none of them
abbrev pub fault_by : Bool → Bool → Bool → Bool → ℕ
fault_by inside low good repeated = cond inside (cond low 6 (cond good (cond repeated 43 0) 43)) 4

abbrev pub name_fault : List ℕ → List ℕ → ℕ → ℕ → ℕ → ℕ
name_fault t places low n at = fault_by (ltb n max_actions) (ltb n low) (good_name (name_from t at)) (is_some (number_by t places (name_from t at)))

abbrev pub name_told : ℕ → ℕ → Refusal
name_told f n = record { number = f; place = cond (eqb f 4) (Spot n 6) (AtLine n) }

-- what stands before a line where no old line does
abbrev pub with_sheet : Sheet → Progress₂
with_sheet sheet = record { sheet = sheet; lines = []; model = at_start; declared = 0 }

-- reading goes on at a place, where line n stands
abbrev pub onward : List ℕ → Progress₂ → ℕ → ℕ → Answer Read
onward t p at n = lines_from₂ (length (drop at t)) n p (drop at t)

-- a refusal tells what is refused
pub record Refuses (o : Answer Read) (f : Refusal) : Type 0 where
  pub tells : Told
  pub says : told f ≡ some tells
  pub same : o ≡ refused tells

-- the names so far: no number is `low` or above
pub record SoFar (t places : List ℕ) (low : ℕ) : Type 0 where
  pub long : length places ≡ max_actions
  pub clear : (a : ℕ) → low ≤ a → get_or places a 0 ≡ 0
  pub least : (n : ℕ) → above (sheet_of t places) n ≡ leb low n

-- the `name` line at a place is faultless
pub record NameFine (t places : List ℕ) (low at number place next : ℕ) : Type 0 where
  pub read : line (drop at t) ≡ got (name-line number (name_from t place)) (drop next t)
  pub below : number < max_actions
  pub from : low ≤ number
  pub fault : name_fault t places low number place ≡ 0
  pub inside : 1 ≤ place

-- all the `name` lines were read: behind them stands another line, or nothing
pub record SheetIs (t : List ℕ) (from : ℕ) (places : List ℕ) (at n : ℕ) : Type 0 where
  pub long : length places ≡ max_actions
  pub behind : from ≤ at
  pub count : n + length (drop at t) ≤ 2 + length t
  pub no_name : begins_name (drop at t) ≡ false
  pub same : onward t (with_sheet (sheet_of t places)) at n ≡ onward t begun from 2

-- a line's number, 0 for none
abbrev pub line_at : ℕ → Option ℕ
line_at zero = none
line_at (suc n) = some (suc n)

-- a name stands for the action, and it is not declared
abbrev pub unused_at : ℕ → ℕ → ℕ → Bool
unused_at d a place = cond (eqb place 0) false (not (has d a))

-- the line behind that of a name, if there is one
abbrev pub line_after : ℕ → ℕ → ℕ
line_after place line = cond (eqb place 0) line (line + 1)
