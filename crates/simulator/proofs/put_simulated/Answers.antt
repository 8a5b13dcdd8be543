-- The text is read into a table of zeros: a refusal is printed, and else what follows.
use mathlib.Core.Path.{sym, ap, ◌∙◌}
use Prim.Native.Nat.{ℕ}
use native.Mathlib.Omega.{arith}
use lib.ListN.{length-replicate}
use Rattle.layout.specs.Layout.{image_words}
use Rattle.report.proofs.AfterRead.{fine-read, refused-read}
use Rattle.printout.proofs.Printing.{printed-line, as-printed}
use Rattle.simulator.specs.Simulated.{ends_text}
use Rattle.simulator.proofs.Ending.{read-refused, read-fine}
use Rattle.simulator.proofs.put_simulated.Goals as goal

pub put_ends-requires : goal.put_ends-requires
put_ends-requires c =
    ((fine-read _ _ _ _ c.read.ensures (omega (arith, length-replicate {A = ℕ} image_words 0)) c.in-Ok.is).2, c.requires)

pub returns-in-Err : goal.returns-in-Err
returns-in-Err c =
    let p = refused-read _ _ _ _ c.read.ensures (omega (arith, length-replicate {A = ℕ} image_words 0)) c.in-Err.f c.in-Err.is in
    printed-line c.in-Err.f p.0 _ p.2 (read-refused _ _ _ p.0 p.1) c.put_refusal.ensures

pub returns-in-Ok : goal.returns-in-Ok
returns-in-Ok c =
    let p = fine-read _ _ _ _ c.read.ensures (omega (arith, length-replicate {A = ℕ} image_words 0)) c.in-Ok.is in
    as-printed (ap (λ m. ends_text m c.args.samples.now c.args.rounds) p.3 ∙ sym (read-fine _ c.args.samples.now c.args.rounds p.0 p.1)) c.put_ends.ensures
