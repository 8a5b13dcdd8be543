-- What the program prints, by the ways in which reading and merging go.
use mathlib.Core.Path.{◌≡◌, refl, sym, ◌∙◌, ap}
use mathlib.Core.Option.{none, some}
use mathlib.Core.List.{List}
use Prim.Native.Nat.{ℕ, ◌≤◌}
use lib.ListN.{length}
use borrow.Author.Tests.{le-ltb}
use Rattle.laws.specs.Search.{when}
use Rattle.answer.specs.Told.{Told, told, Answer, answered, refused, done_of}
use Rattle.answer.specs.declared.Refusal.{Refusal}
use Rattle.answer.specs.Told.{Checked}
use Rattle.std.specs.Prelude.{Ok, Err}
use Rattle.model.specs.Model.{Model}
use Rattle.model.specs.Text.{text_of}
use Rattle.model.specs.Reading.{read_of}
use Rattle.merged.specs.Merge.{merge_of}
use Rattle.merged.proofs.Merging.Models.{merging-is-exact}
use Rattle.answering.specs.Report.{refused_line}
use Rattle.layout.specs.Layout.{image_words}
use Rattle.layout.specs.Lent.{table_too_short, table_after}
use Rattle.layout.specs.Image.{Image, model_of}
use Rattle.layout.specs.OnImage.{FillsTable}
use Rattle.layout.proofs.RowsOfRange.{well-formed}
use Rattle.reading.specs.Read.{room_for}
use Rattle.table.proofs.OnTableLaws.{on-image}
use Rattle.table.proofs.ImageExactly.{image-exactly}
use Rattle.merge.specs.Merging.{room_fault, merge_on, Merging}
use Rattle.printout.proofs.Leaving.{leaves-model, leaves-refusal}
use Rattle.merger.specs.Merged.{joined_text, merged_text}

pub read-refused : (i : ℕ) (input : List ℕ) (t : Told) → read_of input ≡ refused t → merged_text i input ≡ refused_line t
unfolding merged_text
read-refused i input t e = rw (e, merged_text)

pub read-fine : (i : ℕ) (input : List ℕ) (m : Model) → read_of input ≡ answered m → merged_text i input ≡ joined_text i m
unfolding merged_text
read-fine i input m e = rw (e, merged_text)

module _ (i : ℕ) (m : Model) where
  joins : (n : Model) → merge_of m i none ≡ answered n → joined_text i m ≡ text_of n
  unfolding joined_text
  joins n e = rw (e, joined_text)

  refuses : (f : Told) → merge_of m i none ≡ refused f → joined_text i m ≡ refused_line f
  unfolding joined_text
  refuses f e = rw (e, joined_text)

-- the call on an image, into a table that is long enough
module _ (t : List ℕ) (im : Image t) (i : ℕ) (was : List ℕ) (room : image_words ≤ length was) (r : Checked) (into : List ℕ) (g : Merging t i was r into) where
  abbrev merged : Answer Model
  merged = merge_of (model_of t) i none

  on : merge_on t i was ≡ merged
  unfolding merge_on room_fault
  on =
      on-image t (λ m. merge_of m i (room_fault was)) ((image-exactly t).1 im)
      ∙ ap (λ b. merge_of (model_of t) i (when b table_too_short)) (le-ltb (length was) image_words room)

  roomy : (a : Answer Model) → room_for (length was) a ≡ a
  roomy (refused f) = refl
  roomy (answered m) = rw (le-ltb (length was) image_words room, room_for)

  fills : FillsTable was into r (room_for (length was) merged)
  fills = let e = on ∙ sym (roomy merged) in record { answer = g.answer ∙ ap (λ a. some (done_of a)) e; table = g.table ∙ ap (λ a. table_after a was) e }

  pub fine-merged : r ≡ (Ok tt) → Image into × (text_of (model_of into) ≡ joined_text i (model_of t))
  fine-merged f =
      let p = leaves-model merged (λ m q. (merging-is-exact (model_of t) i none m (well-formed t im) q).well-formed) was into r fills room f in
      (p.2, ap text_of p.3 ∙ sym (joins i (model_of t) p.0 p.1))

  pub refused-merged : (q : Refusal) → r ≡ Err q → (u : Told) × (told q ≡ some u) × (joined_text i (model_of t) ≡ refused_line u)
  refused-merged q f =
      let p = leaves-refusal merged (λ m e. (merging-is-exact (model_of t) i none m (well-formed t im) e).well-formed) was into r fills room q f in
      (p.0, p.2, refuses i (model_of t) p.0 p.1)
