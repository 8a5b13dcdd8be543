-- What the program `merge` writes (01, "Composition"): the text of the model in which component i and the next are their product, or the line of a refusal.
use Rattle.std.proofs.Math.Option.{none}
use Rattle.std.specs.Prelude.{List, ℕ}
use Rattle.answer.specs.Told.{answered, refused}
use Rattle.model.specs.Model.{Model}
use Rattle.model.specs.Text.{text_of}
use Rattle.model.specs.Reading.{read_of}
use Rattle.merged.specs.Merge.{merge_of}
use Rattle.answering.specs.Report.{refused_line}

-- into a table that is long enough
unfoldable pub joined_text : ℕ → Model → List ℕ
joined_text i m = elim (merge_of m i none) [ refused f ↦ refused_line f | answered n ↦ text_of n ]

unfoldable pub merged_text : ℕ → List ℕ → List ℕ
merged_text i input = elim (read_of input) [ refused f ↦ refused_line f | answered m ↦ joined_text i m ]
