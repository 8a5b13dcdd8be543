-- The answer of `start`, by whether the table was recognised; and the words of a table that it is made of.
use mathlib.Core.Path.{◌≡◌, refl, sym, ◌∙◌, ap}
use mathlib.Core.Bool.{Bool, true, false}
use mathlib.Core.List.{List}
use Prim.Native.Nat.{ℕ, ◌<◌}
use native.Mathlib.Omega.{arith}
use native.Mathlib.Decide.{dec_lt}
use lib.ListN.{length, get_or, get_or-eq_default}
use Rattle.answer.specs.Limits.{max_components, max_states}
use Rattle.answer.specs.Told.{answered, told}
use Rattle.std.specs.Prelude.{Ok, Err}
use Rattle.answer.specs.declared.Place.TheVariants.{Whole}
use Rattle.iosa.specs.Start.{start_all, started_all, start_of}
use Rattle.iosa.proofs.Settling.Start.{start-length, start-at}
use Rattle.layout.specs.Layout.{count_of, block_word}
use Rattle.layout.specs.Image.{Image, comp_of, model_of}
use Rattle.layout.proofs.ModelOf.{model-length, comp-at}
use Rattle.layout.proofs.ReadBack.{no_block}
use Rattle.layout.proofs.RowsOfRange.{well-formed, image-front}
use Rattle.layout.proofs.ImageIsSane.{comp-ranges}
use Rattle.table.specs.IsImage.{is_image}
use Rattle.table.proofs.OnTableLaws.{on-image, on-no-image}
use Rattle.table.proofs.ImageExactly.{image-exactly}
use Rattle.words.specs.Bytes.{state_of}
use Rattle.outset.specs.declared.Outset.{Outset}
use Rattle.outset.specs.Start.{StartCall}

module _ (t : List ℕ) (im : Image t) where
  -- as many numbers as components
  pub as_many : length (start_all (model_of t)) ≡ count_of t
  as_many = start-length (model_of t) ∙ model-length t

  module _ (i : ℕ) (h : i < max_components) where
    -- past the last component both are 0
    pub start_word : block_word t i 1 ≡ get_or (start_all (model_of t)) i 0
    unfolding comp_of
    start_word = elim (dec_lt i (count_of t)) [
      | yes p ↦ sym (start-at (model_of t) i ∙ ap (λ c. c.start) (comp-at t i p))
      | no p ↦ no_block (model_of t) t (well-formed t im) (image-front t im) i 1 (omega (arith, model-length t)) h (omega arith)
          ∙ sym (get_or-eq_default (start_all (model_of t)) 0 (omega (arith, as_many)))
    ]

    pub start_small : block_word t i 1 < max_states
    start_small = elim (dec_lt i (count_of t)) [
      | yes p ↦ let r = comp-ranges t im i p in omega (arith, r.start, r.states)
      | no p ↦ omega (arith, no_block (model_of t) t (well-formed t im) (image-front t im) i 1 (omega (arith, model-length t)) h (omega arith))
    ]

-- w is what the recogniser answered
module _ (t : List ℕ) (w : Bool) (e : w ≡ is_image t) where
  pub is-image : w ≡ true → Image t
  is-image f = (image-exactly t).0 (sym e ∙ f)

  pub refused-20 : w ≡ false → StartCall t (Err (record { number = 20; place = Whole }))
  unfolding told
  refused-20 f = rw (on-no-image t (λ m. answered (start_of m)) (sym e ∙ f)) refl

  pub begins : w ≡ true → (r : Outset) → r.started ≡ started_all (model_of t) → r.state ≡ state_of (start_all (model_of t)) → StartCall t (Ok r)
  begins f r p q = rw (on-image t (λ m. answered (start_of m)) (sym e ∙ f)) (record { started = p; state = q })
