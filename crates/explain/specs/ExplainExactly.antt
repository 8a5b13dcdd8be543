-- What `explain` and `explain_table` answer, said of what is printed of a text (whys specs, Explanation), and what they leave in the lent buffer.
use Rattle.std.specs.Prelude.{List, ◌∷◌, ℕ, length}
use Rattle.answer.specs.Told.{Answer}
use Rattle.answer.specs.Told.{Written}
use Rattle.model.specs.Model.{Comp}
use Rattle.model.specs.Text.{text_of}
use Rattle.iosa.specs.InOrder.{◌▹◌, Gives, Leaves, accepted, room}
use Rattle.iosa.specs.Lent.{Fills}
use Rattle.layout.specs.OnImage.{OnImage}
use Rattle.whys.specs.Explanation.{Explains}

-- the bytes that both ask for, whatever the input: a clash line of 19, 127 path lines of 201, two orders of 384
abbrev pub longest_explanation : ℕ
longest_explanation = 26314

abbrev pub ExplainExactly : List ℕ → List ℕ → List ℕ → Written → Type 0
ExplainExactly text old new r = Leaves (room longest_explanation (length old) ▹ Gives (Explains text)) (Fills old new r)

-- "20, 10 to 17, 24, then the same": as accept, then 24, then what is printed of the model's text
abbrev pub ExplainTableAnswer : ℕ → Comp → List Comp → Answer (List ℕ) → Type 0
ExplainTableAnswer bytes c cs = accepted (c ∷ cs) ▹ room longest_explanation bytes ▹ Gives (Explains (text_of (c ∷ cs)))

abbrev pub ExplainTableExactly : List ℕ → List ℕ → List ℕ → Written → Type 0
ExplainTableExactly t old new r = Leaves (OnImage t (ExplainTableAnswer (length old))) (Fills old new r)
