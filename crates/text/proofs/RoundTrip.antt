-- The calls `read` and `write` undo each other: what one wrote the other reads as the same image, and what one read the other writes as the same bytes.
use mathlib.Core.Path.{◌≡◌, refl, sym, ◌∙◌, ap}
use mathlib.Core.Option.{some}
use mathlib.Core.Bool.{Bool, true, false}
use mathlib.Core.List.{List, ◌++◌}
use Prim.Native.Nat.{ℕ, ◌≤◌}
use native.Mathlib.Omega.{arith}
use lib.ListN.{length, take, drop}
use lib.Seq.{take_at}
use lib.Dec.{ltb}
use Rattle.answer.specs.Told.{Answer, answered, refused, done_of}
use Rattle.answer.specs.Told.{Checked}
use Rattle.std.specs.Prelude.{Ok}
use Rattle.answer.specs.Told.{Written}
use Rattle.model.specs.Model.{Model}
use Rattle.model.specs.Reading.{read_of}
use Rattle.model.proofs.Reading.TextOfRead.{text-of-read}
use Rattle.layout.specs.Layout.{image_words}
use Rattle.layout.specs.Image.{image_of, model_of}
use Rattle.layout.proofs.ReadBack.{length-of-image}
use Rattle.layout.proofs.RowsOfRange.{image-front, well-formed}
use Rattle.table.specs.IsImage.{is_image}
use Rattle.table.proofs.OnTableLaws.{on-image}
use Rattle.table.proofs.ImageExactly.{image-exactly, written-recognised}
use Rattle.layout.specs.Lent.{table_too_short, table_after}
use Rattle.reading.specs.Read.{room_for, read_on, ReadCall}
use Rattle.reading.proofs.ReadDetermined.{read-determined}
use Rattle.text.specs.Write.{write_of, write_on, WriteCall}
use Rattle.text.proofs.ReadLaws.{says-fine, taken_in_lem}
use Rattle.text.proofs.WriteLaws.{long-enough, says-length}
use Rattle.answer.proofs.SaysFixes.{written-fixed}
use Rattle.text.proofs.ReadBack.{written-image, written-is-read, read-is-written}

-- ---- a text that was read
fine-model : (a : Answer Model) → some (answered tt) ≡ some (done_of a) → (m : Model) × (a ≡ answered m)
fine-model (answered m) e = (m, refl)
fine-model (refused f) e = let z : ◌≡◌ {A = ℕ} 0 1 = cc in absurd (omega arith)

room-model : (room : ℕ) (a : Answer Model) (m : Model) → room_for room a ≡ answered m → a ≡ answered m
room-model room (refused f) m e = let z : ◌≡◌ {A = ℕ} 0 1 = cc in absurd (omega arith)
room-model room (answered n) m e = go (ltb room image_words) e
  where
    go : (b : Bool) → ◌≡◌ {A = Answer Model} (elim b as (λ _. Answer Model) [ true ↦ refused table_too_short | false ↦ answered n ]) (answered m)
        → answered n ≡ answered m
    go true e = let z : ◌≡◌ {A = ℕ} 0 1 = cc in absurd (omega arith)
    go false e = e

module _ (text old new : List ℕ) (c : ReadCall text old new (Ok tt)) where
  answers : (m : Model) × (read_on text old ≡ answered m)
  answers = fine-model (read_on text old) (sym says-fine ∙ c.answer)

  abbrev m : Model
  m = answers.0

  fine-is-read : read_of text ≡ answered m
  unfolding read_on
  fine-is-read = room-model (length old) (read_of text) m answers.1

  read-front : take image_words new ≡ image_of m
  read-front =
      ap (take image_words) (c.table ∙ ap (λ a. table_after a old) answers.1)
      ∙ take_at (image_of m) (drop image_words old) image_words (length-of-image m (text-of-read text m fine-is-read).0)

  -- the table's front is an image, and its model is the text's
  pub read-recognised : (is_image new ≡ true) × (read_of text ≡ answered (model_of new))
  read-recognised =
      let w = written-recognised m new (text-of-read text m fine-is-read).0 read-front in
      (w.0, fine-is-read ∙ ap answered (sym w.1))

  pub read-then-written : (buf out : List ℕ) (r : Written) → length text ≤ length buf → WriteCall new buf out r → (r ≡ Ok (length text))
      × (take (length text) out ≡ text)
  read-then-written buf out r h w =
      let t = (text-of-read text (model_of new) read-recognised.1).1 in
      let e : write_on new buf ≡ answered (length text) =
      on-image new (write_of (length buf)) read-recognised.0 ∙ long-enough (length buf) (model_of new) (omega (arith, ap length t))
      ∙ ap (λ k. answered (length k)) t in
      let s : r ≡ Ok (length text) = written-fixed r (Ok (length text)) (answered (length text)) (w.answer ∙ ap some e) (says-length (length text)) in
      (s, read-is-written new buf out (length text) (record { answer = rw (← s) w.answer; buffer = w.buffer }) text read-recognised.1)

-- ---- a text that was written
pub written-then-read : (t buf out : List ℕ) (n : ℕ) (old new : List ℕ) (r : Checked) → WriteCall t buf out (Ok n) → image_words ≤ length old
    → ReadCall (take n out) old new r → (r ≡ (Ok tt)) × (take image_words new ≡ take image_words t)
written-then-read t buf out n old new r w h c =
    let im = (image-exactly t).0 (written-image t buf out n w) in
    let i = image_of (model_of t) in
    let d = read-determined (take n out) old new (i ++ drop image_words old) r (Ok tt) c
    (taken_in_lem (take n out) old (model_of t) (written-is-read t buf out n w) (i ++ drop image_words old) h refl) in
    (d.1, ap (take image_words) d.0 ∙ take_at i (drop image_words old) image_words (length-of-image (model_of t) (well-formed t im)) ∙ sym (image-front t im))
