-- What `merge` answers, said of the product of the two components, and what the lent table is then.
use Rattle.std.specs.Prelude.{List, ℕ}
use Rattle.answer.specs.Told.{Checked}
use Rattle.iosa.specs.InOrder.{Leaves}
use Rattle.answering.specs.Answers.{MergeCallAnswer}
use Rattle.layout.specs.OnImage.{OnImage, FillsTable, bytes_of, image_bytes}

-- t is the table; was is the buffer before the call, and into after it
abbrev pub MergeExactly : List ℕ → ℕ → List ℕ → Checked → List ℕ → Type 0
MergeExactly t i was r into = Leaves (OnImage t (λ c cs. MergeCallAnswer c cs i image_bytes (bytes_of was))) (FillsTable was into r)
