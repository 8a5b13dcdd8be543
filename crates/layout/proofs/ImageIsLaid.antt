-- The words of an image stand as the layout says: a table is an image exactly where they do and its model is well-formed.
use mathlib.Core.Path.{◌≡◌, ap}
use mathlib.Core.Logic.{◌↔◌}
use mathlib.Core.List.{List}
use Prim.Native.Nat.{ℕ, suc, ◌<◌}
use native.Mathlib.Omega.{arith}
use lib.ListN.{length, take}
use lib.Seq.{take_all}
use Rattle.model.specs.Model.{row_count}
use Rattle.model.specs.WellFormed.{WellFormed}
use Rattle.layout.specs.Layout.{count_of, block_word, first_of}
use Rattle.layout.specs.Image.{model_of, Image}
use Rattle.layout.specs.Laid.{Laid}
use Rattle.layout.proofs.ModelOf.{model-length, comp-at}
use Rattle.layout.proofs.ReadBack.{rows_next, no_block, no-row}
use Rattle.layout.proofs.RowsOfRange.{well-formed, image-front, first-zero, first_next, first-up, first-over, first-start, rows_end}
use Rattle.layout.proofs.ImageIsSane.{image-long}
use Rattle.layout.proofs.FrontOfModel.{laid-image}

module _ (t : List ℕ) (im : Image t) where
  -- the last component's rows end the system's
  pub rows_last : (i : ℕ) → suc i ≡ count_of t → first_of t i (block_word t i 0) ≡ row_count (model_of t)
  rows_last i e =
      let h : i < count_of t = omega arith in
      let f : take (suc i) (model_of t) ≡ model_of t = take_all (suc i) (model_of t) (omega (arith, model-length t)) in
      omega (
        arith,
        ap row_count f,
        rows_next (model_of t) i (omega (arith, model-length t)),
        first-start t im i h,
        ap (λ c. length c.rows) (comp-at t i h),
        rows_end t im i h,
      )

  pub image-is-laid : Laid t
  image-is-laid = record {
    long = image-long t im;
    start = first-zero t im;
    next = first_next t im;
    up = λ i s h p. first-up t im i h s (suc s) (omega arith) p;
    above = λ i s h. first-over t im i h s;
    blocks = λ i k p. no_block (model_of t) t (well-formed t im) (image-front t im) i k (omega (arith, model-length t));
    rows = λ i r v e p. no-row (model_of t) t (well-formed t im) (image-front t im) r v (omega (arith, rows_last i e));
  }

pub image-exactly-laid : (t : List ℕ) → Image t ↔ (Laid t × WellFormed (model_of t))
image-exactly-laid t = (λ im. (image-is-laid t im, well-formed t im), λ p. laid-image t p.0 p.1)
