-- What cutting the line at a place answers: its cut, or nothing where the line has no old line.
use Rattle.std.specs.Prelude as Answered
use Rattle.std.specs.Prelude.{◌≡◌, Some, None, List, ℕ, drop}
use Rattle.std.proofs.Math.Option.{none}
use Rattle.named.specs.NamedText.{line}
use Rattle.namefields.specs.NameFields.{number_by}
use Rattle.namelaws.specs.OldLines.{old_of}
use Rattle.cutlaws.specs.Cutting.{cut_bytes, Ordered, CutIs}
use Rattle.namecut.specs.declared.Cut.{Cut}

abbrev pub cut_text : List ℕ → ℕ → Cut → List ℕ
cut_text t at c = cut_bytes t at c.stop c.go c.next c.action

abbrev pub InOrder : List ℕ → ℕ → Cut → Type 0
InOrder t at c = Ordered t at c.stop c.go c.next

abbrev pub CutAs : List ℕ → List ℕ → ℕ → Answered.Option Cut → Type 0
CutAs t places at (Some c) = CutIs t places at c.stop c.go c.next c.action
CutAs t places at None = old_of (number_by t places) (line (drop at t)) ≡ none
