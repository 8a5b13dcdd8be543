-- What the program `check` writes: the test that a model passes, check 18 (01) or else the test of systems that are not confluent alone (02, 8/13), or the line
-- of a refusal. That is 18 or 45 where the model is accepted and passes neither, and what it is not accepted or not read for before.
use Rattle.std.proofs.Math.Option.{none, some}
use Rattle.std.specs.Prelude.{List, [], ◌∷◌, ℕ}
use Rattle.answer.specs.Told.{answered, refused}
use Rattle.model.specs.Model.{Model}
use Rattle.model.specs.Reading.{read_of}
use Rattle.iosa.specs.Checks.{confluent_of}
use Rattle.triggering.specs.Test.{orderly_of}
use Rattle.answering.specs.Report.{refused_line}

-- `confluent`, LF
abbrev pub confluent_text : List ℕ
confluent_text = 99 ∷ 111 ∷ 110 ∷ 102 ∷ 108 ∷ 117 ∷ 101 ∷ 110 ∷ 116 ∷ 10 ∷ []

-- `orderly`, LF
abbrev pub orderly_text : List ℕ
orderly_text = 111 ∷ 114 ∷ 100 ∷ 101 ∷ 114 ∷ 108 ∷ 121 ∷ 10 ∷ []

unfoldable pub else_text : Model → List ℕ
else_text m = elim (orderly_of m) [ none ↦ orderly_text | some f ↦ refused_line f ]

unfoldable pub tested_text : Model → List ℕ
tested_text m = elim (confluent_of m) [ none ↦ confluent_text | some _ ↦ else_text m ]

unfoldable pub checked_text : List ℕ → List ℕ
checked_text input = elim (read_of input) [ refused f ↦ refused_line f | answered m ↦ tested_text m ]
