-- What `read` and `write` answer, said of the one text of a model, and what they leave in the lent buffer.
use Rattle.std.specs.Prelude.{List, ℕ, length}
use Rattle.answer.specs.Told.{Checked}
use Rattle.answer.specs.Told.{Written}
use Rattle.iosa.specs.InOrder.{Leaves}
use Rattle.answering.specs.Answers.{ReadCallAnswer, WriteAnswer}
use Rattle.iosa.specs.Lent.{Fills}
use Rattle.layout.specs.OnImage.{OnImage, FillsTable, bytes_of, image_bytes}

abbrev pub ReadExactly : List ℕ → List ℕ → List ℕ → Checked → Type 0
ReadExactly t old new r = Leaves (ReadCallAnswer t image_bytes (bytes_of old)) (FillsTable old new r)

abbrev pub WriteExactly : List ℕ → List ℕ → List ℕ → Written → Type 0
WriteExactly t old new r = Leaves (OnImage t (WriteAnswer (length old))) (Fills old new r)
