-- What the program `tree` writes (02, 9/13): the text of the tree's model, or the line of a refusal.
use Rattle.std.specs.Prelude.{List, ℕ}
use Rattle.answer.specs.Told.{answered, refused}
use Rattle.model.specs.Text.{text_of}
use Rattle.answering.specs.Report.{refused_line}
use Rattle.trees.specs.ReadTree.{read_tree_of}

unfoldable pub model_text : List ℕ → List ℕ
model_text input = elim (read_tree_of input) [ refused f ↦ refused_line f | answered m ↦ text_of m ]
