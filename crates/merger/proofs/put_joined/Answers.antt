-- The two are joined in a table of zeros: a refusal is printed, and else the text of the model.
use Prim.Native.Nat.{ℕ}
use native.Mathlib.Omega.{arith}
use lib.ListN.{length-replicate}
use Rattle.layout.specs.Layout.{image_words}
use Rattle.printout.proofs.Printing.{printed-line, as-printed}
use Rattle.merger.proofs.Joining.{fine-merged, refused-merged}
use Rattle.merger.proofs.put_joined.Goals as goal

pub put_model-requires : goal.put_model-requires
put_model-requires c =
    ((fine-merged _ c.requires.0 _ _ (omega (arith, length-replicate {A = ℕ} image_words 0)) _ _ c.merge.ensures c.in-Ok.is).0, c.requires.1)

pub returns-in-Err : goal.returns-in-Err
returns-in-Err c =
    let p = refused-merged _ c.requires.0 _ _ (omega (arith, length-replicate {A = ℕ} image_words 0)) _ _ c.merge.ensures c.in-Err.f c.in-Err.is in
    printed-line c.in-Err.f p.0 _ p.1 p.2 c.put_refusal.ensures

pub returns-in-Ok : goal.returns-in-Ok
returns-in-Ok c =
    let p = fine-merged _ c.requires.0 _ _ (omega (arith, length-replicate {A = ℕ} image_words 0)) _ _ c.merge.ensures c.in-Ok.is in
    as-printed p.1 c.put_model.ensures
