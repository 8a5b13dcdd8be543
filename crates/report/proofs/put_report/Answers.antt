-- `report::put_report` meets its contract.
use mathlib.Core.Path.{sym, ◌∙◌, ap}
use Prim.Native.Nat.{ℕ, ◌-◌}
use native.Mathlib.Omega.{arith}
use lib.ListN.{length, take, drop, length-replicate}
use Rattle.layout.specs.Layout.{image_words}
use Rattle.answer.specs.State.{parts_of}
use Rattle.model.specs.Reading.{read_of}
use Rattle.iosa.specs.Settle.{settle_of}
use Rattle.answering.specs.Report.{request_of, answer_lines}
use Rattle.request.specs.Kept.{keep, asked}
use Rattle.request.proofs.LineLaws.{kept-none, kept-some}
use Rattle.tell.proofs.TellLaws.{put_as, told_text}
use Rattle.steplines.proofs.Most.{refused-most}
use Rattle.report.proofs.ReportLaws.{report-9, report-text}
use Rattle.report.proofs.AfterRead.{fine-read, refused-read, report-run, part-from}
use Rattle.report.proofs.put_report.Goals as goal

pub returns-in_default : goal.returns-in_default
returns-in_default c = let bs = c.args.input.now in
    let none = kept-none keep (request_of bs) (sym c.request_of.ensures.0 ∙ ap (asked bs) c.in_default.is) in
    put_as (sym (report-9 bs none)) c.put_whole.ensures

pub returns-in-Err : goal.returns-in-Err
returns-in-Err c = let bs = c.args.input.now in
    let q = c.in-Some.asked in
    let k = kept-some keep (request_of bs) (sym c.request_of.ensures.0 ∙ ap (asked bs) c.in-Some.is) in
    let f = c.in-Err.f in
    let p = refused-read (take (length bs - q.at) (drop q.at bs)) _ _ _ c.read.ensures (omega (arith, length-replicate {A = ℕ} image_words 0))
    f c.in-Err.is in
    put_as (told_text f p.0 p.2 ∙ sym (report-text bs (drop q.at bs) k.0 k.1 p.0 (ap read_of (sym (part-from bs q.at)) ∙ p.1)))
    c.put_refused.ensures

pub put_refused-requires : goal.put_refused-requires
put_refused-requires c = omega (arith, refused-most c.in-Err.f, c.requires)

pub put_answer-requires : goal.put_answer-requires
put_answer-requires c = let bs = c.args.input.now in
    let at = c.in-Some.asked.at in (
      (fine-read (take (length bs - at) (drop at bs)) _ _ _ c.read.ensures (omega (arith, length-replicate {A = ℕ} image_words 0))
          c.in-Ok.is).2,
      c.requires,
    )

pub returns-in-Ok : goal.returns-in-Ok
returns-in-Ok c = let bs = c.args.input.now in
    let q = c.in-Some.asked in
    let k = kept-some keep (request_of bs) (sym c.request_of.ensures.0 ∙ ap (asked bs) c.in-Some.is) in
    let p = fine-read (take (length bs - q.at) (drop q.at bs)) _ _ _ c.read.ensures (omega (arith, length-replicate {A = ℕ} image_words 0))
    c.in-Ok.is in
    let whole = report-run bs (drop q.at bs) k.0 k.1 p.0 (ap read_of (sym (part-from bs q.at)) ∙ p.1)
    (record { state = q.state; budget = q.budget }) k.2 in
    put_as (ap (λ m. answer_lines m (parts_of q.state) (settle_of m (parts_of q.state) q.budget q.budget)) p.3 ∙ whole)
    c.put_answer.ensures
