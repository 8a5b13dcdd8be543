-- What reading leaves, where the table is long enough: an image of the model that was read, or a refusal.
use mathlib.Core.Path.{◌≡◌, sym, ◌∙◌, ap}
use mathlib.Core.Option.{some}
use mathlib.Core.List.{List}
use Prim.Native.Nat.{ℕ, ◌-◌, ◌≤◌}
use native.Mathlib.Omega.{arith}
use lib.ListN.{length, take, drop, length-drop}
use lib.Seq.{take_all}
use Rattle.answer.specs.Told.{Told, told, answered, refused}
use Rattle.answer.specs.Told.{Checked}
use Rattle.std.specs.Prelude.{Ok, Err}
use Rattle.answer.specs.declared.Refusal.{Refusal}
use Rattle.model.specs.Model.{Model}
use Rattle.answer.specs.State.{parts_of}
use Rattle.model.specs.Reading.{read_of}
use Rattle.iosa.specs.Settle.{settle_of}
use Rattle.answering.specs.Report.{Request, request_of, answer_lines, report_of}
use Rattle.request.specs.Kept.{Kept, there, keep}
use Rattle.report.proofs.ReportLaws.{report-model, kept-answers}
use Rattle.model.proofs.Reading.TextOfRead.{text-of-read}
use Rattle.layout.specs.Layout.{image_words}
use Rattle.layout.specs.Image.{Image, model_of}
use Rattle.layout.specs.OnImage.{FillsTable}
use Rattle.reading.specs.Read.{read_on, room_for, ReadCall}
use Rattle.printout.proofs.Leaving.{leaves-model, leaves-refusal}

module _ (text old new : List ℕ) (r : Checked) (e : ReadCall text old new r) (h : image_words ≤ length old) where
  fills : FillsTable old new r (room_for (length old) (read_of text))
  unfolding read_on
  fills = record { answer = e.answer; table = e.table }

  pub fine-read : r ≡ (Ok tt) → (m : Model) × (read_of text ≡ answered m) × Image new × (model_of new ≡ m)
  fine-read f = leaves-model (read_of text) (λ m q. (text-of-read text m q).0) old new r fills h f

  pub refused-read : (g : Refusal) → r ≡ Err g → (t : Told) × (read_of text ≡ refused t) × (told g ≡ some t)
  refused-read g f = leaves-refusal (read_of text) (λ m q. (text-of-read text m q).0) old new r fills h g f

-- the request and the model that was read, as they are kept, give the report
pub report-run : (bs rest : List ℕ) (q : Request) → request_of bs ≡ there q rest → (m : Model) → read_of rest ≡ answered m → (y : Kept) → keep q ≡ y
    → answer_lines m (parts_of y.state) (settle_of m (parts_of y.state) y.budget y.budget) ≡ report_of bs
report-run bs rest q e m f y k =
    ap (λ z. answer_lines m (parts_of z.state) (settle_of m (parts_of z.state) z.budget z.budget)) (sym k)
    ∙ kept-answers m (text-of-read rest m f).0 q.state q.budget
    ∙ sym (report-model bs rest q e m f)

-- a part of a slice from a place on
pub part-from : (bs : List ℕ) (at : ℕ) → take (length bs - at) (drop at bs) ≡ drop at bs
part-from bs at = take_all (length bs - at) (drop at bs) (omega (arith, length-drop at bs))
