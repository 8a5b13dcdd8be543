-- What the contract of `merge` says where it answers: the front of the buffer is the image of the model with the product in the place of the two, and
-- the rest is as it was.
use mathlib.Core.Path.{◌≡◌, sym, ◌∙◌, ap}
use mathlib.Core.List.{List, ◌++◌}
use Prim.Native.Nat.{ℕ}
use lib.ListN.{length, take, drop}
use lib.Seq.{take_at, drop_at}
use Rattle.answer.specs.Told.{answered}
use Rattle.answer.specs.Told.{Checked}
use Rattle.model.specs.Model.{Model}
use Rattle.merged.specs.Merge.{merge_of}
use Rattle.merged.specs.MergedExactly.{MergedModel}
use Rattle.merged.proofs.Merging.Models.{merging-is-exact}
use Rattle.layout.specs.Layout.{image_words}
use Rattle.layout.specs.Image.{image_of, model_of, Image}
use Rattle.layout.proofs.ReadBack.{length-of-image}
use Rattle.layout.proofs.RowsOfRange.{well-formed}
use Rattle.table.proofs.OnTableLaws.{on-image}
use Rattle.table.proofs.ImageExactly.{image-exactly}
use Rattle.layout.specs.Lent.{table_after}
use Rattle.merge.specs.Merging.{room_fault, merge_on, Merging}

-- on an image, what is answered is the merged model
pub merged-answered : (t : List ℕ) (im : Image t) (i : ℕ) (was : List ℕ) (n : Model) → merge_on t i was ≡ answered n → MergedModel (model_of t) i n
unfolding merge_on
merged-answered t im i was n e =
    merging-is-exact (model_of t) i (room_fault was) n (well-formed t im) (sym (on-image t (λ m. merge_of m i (room_fault was)) ((image-exactly t).1 im)) ∙ e)

module _ (t : List ℕ) (im : Image t) (i : ℕ) (was : List ℕ) (r : Checked) (into : List ℕ) (g : Merging t i was r into) (n : Model)
    (e : merge_on t i was ≡ answered n) where
  written : into ≡ image_of n ++ drop image_words was
  written = g.table ∙ ap (λ a. table_after a was) e

  long : length (image_of n) ≡ image_words
  long = length-of-image n (merged-answered t im i was n e).well-formed

  pub merge-writes-the-image : take image_words into ≡ image_of n
  merge-writes-the-image = ap (take image_words) written ∙ take_at (image_of n) (drop image_words was) image_words long

  pub merge-leaves-the-rest : drop image_words into ≡ drop image_words was
  merge-leaves-the-rest = ap (drop image_words) written ∙ drop_at (image_of n) (drop image_words was) image_words long
