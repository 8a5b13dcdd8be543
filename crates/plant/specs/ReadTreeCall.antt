-- What the call `read_tree` answers on every input, and what it leaves in the table (02, 9/13: 2, 4 and 6 as for models, 5, 47, 48; then 24).
use Rattle.std.specs.Prelude.{◌≡◌, List, ℕ, length}
use Rattle.std.proofs.Math.Option.{some}
use Rattle.answer.specs.Told.{Answer, says_checked, done_of}
use Rattle.answer.specs.Told.{Checked}
use Rattle.model.specs.Model.{Model}
use Rattle.layout.specs.Lent.{table_after}
use Rattle.reading.specs.Read.{room_for}
use Rattle.trees.specs.ReadTree.{read_tree_of}

unfoldable pub read_tree_on : List ℕ → List ℕ → Answer Model
read_tree_on t old = room_for (length old) (read_tree_of t)

pub record ReadTreeCall (t old new : List ℕ) (r : Checked) : Type 0 where
  pub answer : says_checked r ≡ some (done_of (read_tree_on t old))
  pub table : new ≡ table_after (read_tree_on t old) old
