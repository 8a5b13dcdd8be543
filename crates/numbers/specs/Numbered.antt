-- What the program `numbers` writes (02, 7/13): the old text of a text of the second form, or the line of a refusal.
use Rattle.std.specs.Prelude.{List, ℕ}
use Rattle.answer.specs.Told.{answered, refused}
use Rattle.answering.specs.Report.{refused_line}
use Rattle.steplines.specs.Run.{most_bytes}
use Rattle.named.specs.Converted.{to_numbers, fitted}

unfoldable pub numbered_text : List ℕ → List ℕ
numbered_text input = elim (to_numbers input) [
  | refused f ↦ refused_line f
  | answered t ↦ elim (fitted most_bytes t) [ refused f ↦ refused_line f | answered n ↦ t ]
]
