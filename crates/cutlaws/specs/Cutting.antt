-- A converted line is the line itself with the bytes of its action field exchanged: the bytes up to a place, others, and the bytes from a place on.
use Rattle.std.specs.Prelude.{◌≡◌, Some, None, List, [], ◌++◌, ℕ, ◌≤◌, ◌<◌, length, drop}
use Rattle.std.proofs.Math.Option.{some}
use Rattle.std.proofs.Math.Seq.{slice}
use Rattle.model.specs.Text.{decimal}
use Rattle.model.specs.Line.{line_of}
use Rattle.model.specs.Reading.{Entry}
use Rattle.named.specs.NamedText.{line}
use Rattle.namefields.specs.NameFields.{number_by, Found}
use Rattle.namelines.specs.declared.NamedLine.{NamedLine}
use Rattle.namelines.specs.declared.NamedLine.TheVariants.{Form, Name, Act, Row, Plain}
use Rattle.namelaws.specs.OldLines.{old_of}

-- a line has a name in its action field, or no such field, or no old line at all
abbrev pub HasName : NamedLine → Type 0
HasName Form = ⊥
HasName (Name n) = ⊥
HasName (Act k) = Unit {0}
HasName (Row s g r u) = Unit {0}
HasName (Plain l) = ⊥

abbrev pub IsPlain : NamedLine → Type 0
IsPlain Form = ⊥
IsPlain (Name n) = ⊥
IsPlain (Act k) = ⊥
IsPlain (Row s g r u) = ⊥
IsPlain (Plain l) = Unit {0}

abbrev pub NoOld : NamedLine → Type 0
NoOld Form = Unit {0}
NoOld (Name n) = Unit {0}
NoOld (Act k) = ⊥
NoOld (Row s g r u) = ⊥
NoOld (Plain l) = ⊥

-- what stands between: the number, if there is an action
abbrev pub number_part : Found → List ℕ
number_part None = []
number_part (Some a) = decimal a

abbrev pub cut_bytes : List ℕ → ℕ → ℕ → ℕ → ℕ → Found → List ℕ
cut_bytes t at stop go next a = slice at stop t ++ number_part a ++ slice go next t

-- the places of a cut, in their order
pub record Ordered (t : List ℕ) (at stop go next : ℕ) : Type 0 where
  pub first : at ≤ stop
  pub name : stop ≤ go
  pub last : go ≤ next
  pub more : at < next
  pub inside : next ≤ length t

-- the old line of the line at a place
pub record CutIs (t places : List ℕ) (at stop go next : ℕ) (a : Found) : Type 0 where
  pub old : Entry
  pub read : old_of (number_by t places) (line (drop at t)) ≡ some (record { value = old; rest = drop next t })
  pub bytes : cut_bytes t at stop go next a ≡ line_of old
  pub ordered : Ordered t at stop go next
