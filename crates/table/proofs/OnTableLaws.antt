-- What a call on a table answers, by whether the table is an image.
use mathlib.Core.Path.{◌≡◌}
use mathlib.Core.Bool.{true, false}
use mathlib.Core.List.{List}
use Prim.Native.Nat.{ℕ}
use Rattle.answer.specs.Told.{Answer, refused}
use Rattle.model.specs.Model.{Model}
use Rattle.layout.specs.Image.{model_of, no_image}
use Rattle.table.specs.IsImage.{is_image}
use Rattle.table.specs.OnTable.{on_table}

module _ {A : Type 0} (t : List ℕ) (f : Model → Answer A) where
  pub on-image : is_image t ≡ true → on_table t f ≡ f (model_of t)
  unfolding on_table
  on-image e = rw (e, on_table)

  pub on-no-image : is_image t ≡ false → on_table t f ≡ refused no_image
  unfolding on_table
  on-no-image e = rw (e, on_table)
