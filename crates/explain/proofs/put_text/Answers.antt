-- `explain::put_text` meets its contract: the refusal of the text, or what is printed of its table.
use mathlib.Core.Path.{◌∙◌, ap}
use Prim.Native.Nat.{ℕ}
use native.Mathlib.Omega.{arith}
use lib.ListN.{length-replicate}
use Rattle.layout.specs.Layout.{image_words}
use Rattle.tell.proofs.TellLaws.{put_as}
use Rattle.steplines.proofs.Most.{refused-short}
use Rattle.report.proofs.AfterRead.{fine-read, refused-read}
use Rattle.whys.specs.Explanation.{explain_model}
use Rattle.explain.proofs.Called.{unread-line, read-lines}
use Rattle.explain.proofs.put_text.Goals as goal

pub put_refused-requires : goal.put_refused-requires
put_refused-requires c = omega (arith, refused-short c.in-Err.f, c.requires)

pub put_table-requires : goal.put_table-requires
put_table-requires c = (
  (fine-read _ _ _ _ c.read.ensures (omega (arith, length-replicate {A = ℕ} image_words 0)) c.in-Ok.is).2,
  c.requires,
)

pub returns-in-Err : goal.returns-in-Err
returns-in-Err c = let f = c.in-Err.f in
    let p = refused-read _ _ _ _ c.read.ensures (omega (arith, length-replicate {A = ℕ} image_words 0)) f c.in-Err.is in
    put_as (unread-line _ f p.0 p.2 p.1) c.put_refused.ensures

pub returns-in-Ok : goal.returns-in-Ok
returns-in-Ok c = let p = fine-read _ _ _ _ c.read.ensures (omega (arith, length-replicate {A = ℕ} image_words 0)) c.in-Ok.is in
    put_as (ap explain_model p.3 ∙ read-lines _ p.0 p.1) c.put_table.ensures
