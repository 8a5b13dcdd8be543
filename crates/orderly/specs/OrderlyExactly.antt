-- What `orderly` and `may_walk` answer, in the terms of document 000: 20 where the table holds no model, else the first check of that model that refuses.
use Rattle.std.specs.Prelude.{List, ◌∷◌, ℕ}
use Rattle.answer.specs.Told.{Answer}
use Rattle.answer.specs.Told.{Checked}
use Rattle.model.specs.Model.{Comp}
use Rattle.iosa.specs.InOrder.{◌▹◌, Leaves, accepted}
use Rattle.answering.specs.Answers.{Fine}
use Rattle.layout.specs.OnImage.{OnImage, Tells}
use Rattle.walkable.specs.Entry.{closed, passing, settles}

-- "45 .. if .. the new test is called", also where check 18 would pass; "otherwise 18"
abbrev pub OrderlyAnswer : Comp → List Comp → Answer (Unit {0}) → Type 0
OrderlyAnswer c cs = accepted (c ∷ cs) ▹ closed (c ∷ cs) ▹ passing (c ∷ cs) ▹ Fine

-- "45 .. if .. check 18 has failed; otherwise 18 where neither test passes"
abbrev pub MayWalkAnswer : Comp → List Comp → Answer (Unit {0}) → Type 0
MayWalkAnswer c cs = accepted (c ∷ cs) ▹ settles (c ∷ cs) ▹ Fine

abbrev pub OrderlyExactly : List ℕ → Checked → Type 0
OrderlyExactly t r = Leaves (OnImage t OrderlyAnswer) (Tells r)

abbrev pub MayWalkExactly : List ℕ → Checked → Type 0
MayWalkExactly t r = Leaves (OnImage t MayWalkAnswer) (Tells r)
