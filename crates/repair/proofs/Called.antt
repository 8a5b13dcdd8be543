-- The contract of `repair`, by the ways in which the call goes.
use mathlib.Core.Path.{◌≡◌, refl, sym, ◌∙◌, ap}
use mathlib.Core.Option.{some}
use mathlib.Core.Bool.{true, false, ◌||◌}
use mathlib.Core.List.{List, [], ◌∷◌, ◌++◌}
use Prim.Native.Nat.{ℕ, ◌*◌, ◌≤◌, ◌<◌}
use native.Mathlib.Omega.{arith}
use lib.ListN.{length, drop}
use lib.Dec.{ltb}
use borrow.Author.Tests.{lt-ltb, le-ltb}
use Rattle.answer.specs.Limits.{max_rows, max_bytes}
use Rattle.answer.specs.Told.{told, tell, Answer, answered, refused, says_written}
use Rattle.answer.specs.declared.Place.TheVariants.{Whole, Bytes}
use Rattle.answer.specs.Told.{Written}
use Rattle.std.specs.Prelude.{Ok, Err}
use Rattle.model.specs.Model.{Model, row_count}
use Rattle.model.specs.Text.{text_of}
use Rattle.model.specs.WellFormed.{WellFormed}
use Rattle.layout.specs.Layout.{image_words}
use Rattle.layout.specs.Image.{Image, image_of, model_of, no_image}
use Rattle.layout.proofs.RowsOfRange.{well-formed}
use Rattle.table.specs.IsImage.{is_image}
use Rattle.table.proofs.OnTableLaws.{on-image, on-no-image}
use Rattle.table.proofs.ImageExactly.{image-exactly}
use Rattle.lacking.specs.Repair.{repaired_of, added_to, bytes_in}
use Rattle.lacking.specs.Repaired.{Mended}
use Rattle.lacking.specs.Walk.{cell_bytes}
use Rattle.lacking.proofs.RepairedModels.{repaired-well-formed}
use Rattle.repair.specs.Repairing.{repair_of, repair_on, number_in, table_with, list_with, Repairing}
use Rattle.repair.proofs.Answers.{small-exactly}

-- what the call says and leaves, from what it answers
called : (t l : List ℕ) (r : Written) (t' l' : List ℕ) (a : Answer Mended) → repair_on t l ≡ a → says_written r ≡ some (number_in a) → t' ≡ table_with a t
    → l' ≡ list_with a l → Repairing t l r t' l'
called t l r t' l' a e p q s =
    record { answer = p ∙ ap (λ b. some (number_in b)) (sym e); table = q ∙ ap (λ b. table_with b t) (sym e); list = s ∙ ap (λ b. list_with b l) (sym e) }

says-20 : says_written (Err (record { number = 20; place = Whole })) ≡ some (refused no_image)
unfolding says_written told
says-20 = refl

says-24 : (n : ℕ) → says_written (Err (record { number = 24; place = Bytes n })) ≡ some (refused (tell 24 (n ∷ [])))
unfolding says_written told
says-24 n = refl

says-26 : says_written (Err (record { number = 26; place = Whole })) ≡ some (refused (tell 26 (0 ∷ [])))
unfolding says_written told
says-26 = refl

says-number : (n : ℕ) → says_written (Ok n) ≡ some (answered n)
unfolding says_written
says-number n = refl

module _ (t l : List ℕ) where
  pub no_table : (r : Written) → r ≡ Err (record { number = 20; place = Whole }) → is_image t ≡ false → Repairing t l r t l
  unfolding repair_on
  no_table r er e = called t l r t l (refused no_image) (on-no-image t (repair_of (length l)) e) (ap says_written er ∙ says-20) refl refl

  module _ (im : Image t) where
    m : Model
    m = model_of t

    needed : ℕ
    needed = cell_bytes * length (added_to (model_of t))

    on : (a : Answer Mended) → repair_of (length l) (model_of t) ≡ a → repair_on t l ≡ a
    unfolding repair_on
    on a e = on-image t (repair_of (length l)) ((image-exactly t).1 im) ∙ e

    pub no_room : (r : Written) (k : ℕ) (l' : List ℕ) → r ≡ Err (record { number = 24; place = Bytes k }) → k ≡ cell_bytes * length (added_to (model_of t))
        → length l < k → l' ≡ l → Repairing t l r t l'
    unfolding repair_of
    no_room r k l' er ek h el =
        called t l r t l' (refused (tell 24 (cell_bytes * length (added_to (model_of t)) ∷ [])))
        (on _ (rw (lt-ltb (length l) (cell_bytes * length (added_to (model_of t))) (omega arith), repair_of)))
        (ap says_written er ∙ says-24 k ∙ ap (λ x. some (refused (tell 24 (x ∷ [])))) ek) refl el

    module _ (room : cell_bytes * length (added_to (model_of t)) ≤ length l) where
      pub too-big : (r : Written) (l' : List ℕ) → r ≡ Err (record { number = 26; place = Whole })
          → (ltb max_rows (row_count (repaired_of (model_of t))) || ltb max_bytes (length (text_of (repaired_of (model_of t))))) ≡ true → l' ≡ l → Repairing t l r t l'
      unfolding repair_of
      too-big r l' er h el =
          called t l r t l' (refused (tell 26 (0 ∷ []))) (on _ (rw (le-ltb (length l) (cell_bytes * length (added_to (model_of t))) room, h, repair_of)))
          (ap says_written er ∙ says-26) refl el

      module _ (h : (ltb max_rows (row_count (repaired_of (model_of t))) || ltb max_bytes (length (text_of (repaired_of (model_of t))))) ≡ false) where
        pub fine-well : WellFormed (repaired_of (model_of t))
        fine-well = repaired-well-formed (model_of t) (well-formed t im) ((small-exactly (repaired_of (model_of t))).0 h)

        pub done : (n : ℕ) (t' l' : List ℕ) → n ≡ length (added_to (model_of t)) → t' ≡ image_of (repaired_of (model_of t)) ++ drop image_words t
            → l' ≡ bytes_in (added_to (model_of t)) ++ drop (cell_bytes * length (added_to (model_of t))) l → Repairing t l (Ok n) t' l'
        unfolding repair_of
        done n t' l' en et el =
            called t l (Ok n) t' l' (answered (record { model = repaired_of (model_of t); added = added_to (model_of t) }))
            (on _ (rw (le-ltb (length l) (cell_bytes * length (added_to (model_of t))) room, h, repair_of)))
            (says-number n ∙ ap (λ k. some (answered k)) en) et el
