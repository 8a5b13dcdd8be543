-- Whether the merged model keeps the limits (01: 26 "over 64 states, 1,024 rows or 32,768 bytes"; 128 states since request 12), and the row at which the product's rows end.
use Rattle.std.specs.Prelude.{◌≡◌, Option, Some, None, List, ℕ, ◌+◌, length, take}
use Rattle.model.specs.Model.{row_count}
use Rattle.merged.specs.Merge.{product_rows}
use Rattle.merged.specs.MergedExactly.{FitsIn}
use Rattle.layout.specs.Image.{comp_of, model_of}

pub record Sized (t : List ℕ) (i : ℕ) (r : Option ℕ) : Type 0 where
  pub fits : (new : ℕ) → r ≡ Some new → FitsIn (model_of t) i × (new ≡ row_count (take i (model_of t)) + length (product_rows (comp_of t i) (comp_of t (i + 1))))
  pub big : r ≡ None → (FitsIn (model_of t) i → ⊥)
