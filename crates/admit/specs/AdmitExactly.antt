-- What `component`, `compatible`, `accept` and `confluent` answer, in the terms of document 000:
-- 20 where the table holds no model, else the first fault of the model that it holds.
use Rattle.std.specs.Prelude.{List, ℕ}
use Rattle.answer.specs.Told.{Checked}
use Rattle.iosa.specs.InOrder.{Leaves}
use Rattle.answering.specs.Answers.{ComponentAnswer, CompatibleAnswer, AcceptAnswer, ConfluentAnswer}
use Rattle.layout.specs.OnImage.{OnImage, Tells}

abbrev pub ComponentExactly : List ℕ → ℕ → Checked → Type 0
ComponentExactly t i r = Leaves (OnImage t (ComponentAnswer i)) (Tells r)

abbrev pub CompatibleExactly : List ℕ → Checked → Type 0
CompatibleExactly t r = Leaves (OnImage t CompatibleAnswer) (Tells r)

abbrev pub AcceptExactly : List ℕ → Checked → Type 0
AcceptExactly t r = Leaves (OnImage t AcceptAnswer) (Tells r)

abbrev pub ConfluentExactly : List ℕ → Checked → Type 0
ConfluentExactly t r = Leaves (OnImage t ConfluentAnswer) (Tells r)
