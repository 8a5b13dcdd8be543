-- What a program prints of a conversion (02, 7/13): the converted text, or the line of a refusal.
use Rattle.std.specs.Prelude.{List, ℕ}
use Rattle.answer.specs.Told.{Answer, answered, refused}
use Rattle.answering.specs.Report.{refused_line}
use Rattle.steplines.specs.Run.{most_bytes}
use Rattle.named.specs.Converted.{fitted}

unfoldable pub converted_text : Answer (List ℕ) → List ℕ
converted_text o = elim o [
  | refused f ↦ refused_line f
  | answered t ↦ elim (fitted most_bytes t) [ refused f ↦ refused_line f | answered n ↦ t ]
]
