-- What `start` answers, in the terms of document 000: 20 where the table holds no model, else where the product of the model that it holds begins.
use Rattle.std.specs.Prelude.{List, ℕ, Result}
use Rattle.iosa.specs.InOrder.{Gives, Leaves}
use Rattle.iosa.specs.Start.{StartOf}
use Rattle.layout.specs.OnImage.{OnImage}
use Rattle.answer.specs.declared.Refusal.{Refusal}
use Rattle.outset.specs.declared.Outset.{Outset}
use Rattle.outset.specs.Start.{StartLeaves}

abbrev pub StartExactly : List ℕ → Result Outset Refusal → Type 0
StartExactly t r = Leaves (OnImage t (λ c cs. Gives (StartOf c cs))) (StartLeaves r)
