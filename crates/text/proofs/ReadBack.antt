-- Reading and writing undo each other over the promise of `write`: what it wrote is read as the table's model, and a text that is read as that model
-- is what it writes.
use mathlib.Core.Path.{◌≡◌, refl, sym, ◌∙◌, ap}
use mathlib.Core.Bool.{Bool, true, false}
use mathlib.Core.List.{List}
use Prim.Native.Nat.{ℕ}
use native.Mathlib.Omega.{arith}
use lib.ListN.{length, take, drop}
use lib.Seq.{take_at}
use lib.Dec.{ltb}
use Rattle.answer.specs.Told.{Answer, answered, refused}
use Rattle.std.specs.Prelude.{Ok}
use Rattle.model.specs.Text.{text_of}
use Rattle.model.specs.Reading.{read_of}
use Rattle.model.proofs.Reading.ReadOfText.{read-of-text, read-exactly}
use Rattle.layout.specs.Image.{model_of, no_image}
use Rattle.layout.proofs.RowsOfRange.{well-formed}
use Rattle.table.specs.IsImage.{is_image}
use Rattle.table.proofs.OnTableLaws.{on-image, on-no-image}
use Rattle.table.proofs.ImageExactly.{image-exactly}
use Rattle.text.specs.Write.{too_short, write_of, write_on, text_after, WriteCall}
use Rattle.answer.proofs.SaysFixes.{says-the-length}

-- what was answered with a length
module _ (t old new : List ℕ) (n : ℕ) (c : WriteCall t old new (Ok n)) where
  said : write_on t old ≡ answered n
  said = says-the-length n (write_on t old) c.answer

  pub written-image : is_image t ≡ true
  written-image = go (is_image t) refl
    where
      go : (b : Bool) → is_image t ≡ b → is_image t ≡ true
      go true h = h
      go false h =
          let e : refused no_image ≡ answered n = sym (on-no-image t (write_of (length old)) h) ∙ said in
          let z : ◌≡◌ {A = ℕ} 0 1 = cc in
          absurd (omega arith)

  pub written-length : n ≡ length (text_of (model_of t))
  unfolding write_of
  written-length = go (ltb (length old) (length (text_of (model_of t)))) (sym (on-image t (write_of (length old)) written-image) ∙ said)
    where
      go : (b : Bool) → ◌≡◌ {A = Answer ℕ} (elim b as (λ _. Answer ℕ) [
        | true ↦ refused (too_short (length (text_of (model_of t))))
        | false ↦ answered (length (text_of (model_of t)))
      ]) (answered n) → n ≡ length (text_of (model_of t))
      go true e = let z : ◌≡◌ {A = ℕ} 0 1 = cc in absurd (omega arith)
      go false e = cc

  pub written-front : take n new ≡ text_of (model_of t)
  written-front =
      ap (take n) (c.buffer ∙ ap (λ a. text_after a t old) said) ∙ take_at (text_of (model_of t)) (drop n old) n (sym written-length)

  -- reading what was written gives the table's model
  pub written-is-read : read_of (take n new) ≡ answered (model_of t)
  written-is-read = ap read_of written-front ∙ read-of-text (model_of t) (well-formed t ((image-exactly t).0 written-image))

  -- and a text that is read as the table's model is what is written
  pub read-is-written : (text : List ℕ) → read_of text ≡ answered (model_of t) → take n new ≡ text
  read-is-written text e = written-front ∙ ((read-exactly text (model_of t)).0 e).1
