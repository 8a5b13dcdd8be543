-- What stands in a table that `read_tree` filled (02, 9/13).
use Rattle.std.specs.Prelude.{List, ℕ}
use Rattle.model.specs.Model.{Model}
use Rattle.layout.specs.OnImage.{Holds}
use Rattle.treetheory.specs.AsDrawn.{Drawing}

-- the image of the model of the tree whose text this is, and the model does what is drawn
pub record TreeTable (text table : List ℕ) : Type 0 where
  pub model : Model
  pub holds : Holds table model
  pub drawing : Drawing text model
