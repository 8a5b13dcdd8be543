-- What scanning the line at a place answers: its parts, or nothing where there is no line.
use Rattle.std.specs.Prelude as Answered
use Rattle.std.specs.Prelude.{◌≡◌, Some, None, List, [], ℕ}
use Rattle.naminglaws.specs.Naming.{entries_at, line_bytes, PartIs}
use Rattle.naming.specs.declared.Part.{Part}

abbrev pub PartOf : List ℕ → ℕ → Part → Type 0
PartOf t at p = PartIs t at p.place p.declares p.next

abbrev pub PartAs : List ℕ → ℕ → Answered.Option Part → Type 0
PartAs t at (Some p) = PartOf t at p
PartAs t at None = entries_at t at ≡ []

abbrev pub part_bytes : List ℕ → ℕ → Part → List ℕ
part_bytes t at p = line_bytes t at p.place p.next
