-- What `merge` leaves where it answers fine (01, "Composition"): a second table that holds the model with the product in the place of the two.
use Rattle.std.specs.Prelude.{◌≡◌, List, ℕ, drop}
use Rattle.std.proofs.Math.Option.{none}
use Rattle.iosa.specs.Checks.{accept_of}
use Rattle.merged.specs.MergedExactly.{MergedModel}
use Rattle.layout.specs.Layout.{image_words}
use Rattle.layout.specs.Image.{model_of, Image}

-- t is the table; was is the buffer before the call, and into after it
pub record MergedTable (t : List ℕ) (i : ℕ) (was into : List ℕ) : Type 0 where
  pub image : Image t
  pub again : Image into
  pub model : MergedModel (model_of t) i (model_of into)
  pub accepted : accept_of (model_of into) ≡ none
  pub rest : drop image_words into ≡ drop image_words was
