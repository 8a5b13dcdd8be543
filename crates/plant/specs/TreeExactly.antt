-- What `read_tree` answers, said of trees as they are drawn, and what it leaves in the lent table.
use Rattle.std.specs.Prelude.{List, ℕ}
use Rattle.answer.specs.Told.{Answer, answered, refused}
use Rattle.answer.specs.Told.{Checked}
use Rattle.model.specs.Model.{Model}
use Rattle.iosa.specs.InOrder.{Check, ◌▹◌, Gives, room, Leaves}
use Rattle.layout.specs.OnImage.{FillsTable, bytes_of, image_bytes}
use Rattle.trees.specs.TreeFaults.{TreeAnswer}

-- reading a tree, as a check before its model is written
abbrev pub drawable : List ℕ → Check
drawable t = record { Refuses = λ f. TreeAnswer t (refused f); Passes = (m : Model) × TreeAnswer t (answered m) }

-- "then 24": a table of so many bytes, and the bytes that it needs
abbrev pub ReadTreeAnswer : List ℕ → ℕ → ℕ → Answer Model → Type 0
ReadTreeAnswer t needed bytes = drawable t ▹ room needed bytes ▹ Gives (λ m. TreeAnswer t (answered m))

abbrev pub ReadTreeExactly : List ℕ → List ℕ → List ℕ → Checked → Type 0
ReadTreeExactly t old new r = Leaves (ReadTreeAnswer t image_bytes (bytes_of old)) (FillsTable old new r)
