-- What the program `mend` writes (02, 1/13): the text of the repaired model, or the line of a refusal.
use Rattle.std.specs.Prelude.{List, ℕ, ◌*◌}
use Rattle.answer.specs.Told.{answered, refused}
use Rattle.model.specs.Model.{Model}
use Rattle.model.specs.Text.{text_of}
use Rattle.model.specs.Reading.{read_of}
use Rattle.answering.specs.Report.{refused_line}
use Rattle.lacking.specs.Walk.{cell_bytes, most_cells}
use Rattle.repair.specs.Repairing.{repair_of}

-- with a list that is long enough for every model
unfoldable pub repaired_text : Model → List ℕ
repaired_text m = elim (repair_of (cell_bytes * most_cells) m) [ refused f ↦ refused_line f | answered d ↦ text_of d.model ]

unfoldable pub mended_text : List ℕ → List ℕ
mended_text input = elim (read_of input) [ refused f ↦ refused_line f | answered m ↦ repaired_text m ]
