-- What the repair refuses is printed, and else the text of the repaired model.
use mathlib.Core.Path.{sym}
use Rattle.printout.proofs.Printing.{printed-line, as-printed}
use Rattle.mend.proofs.Mending.{repair-fine, repair-refused}
use Rattle.mend.proofs.put_repaired.Goals as goal

pub put_model-requires : goal.put_model-requires
put_model-requires c =
    let p = repair-fine _ _ _ _ c.requires.0 c.empty_list-list.ensures _ _ c.in-Ok.is c.repair.ensures in
    (p.0, c.requires.1)

pub returns-in-Err : goal.returns-in-Err
returns-in-Err c =
    let p = repair-refused _ _ _ _ c.requires.0 c.empty_list-list.ensures _ c.in-Err.f c.in-Err.is c.repair.ensures in
    printed-line c.in-Err.f p.0 _ p.1 p.2 c.put_refusal.ensures

pub returns-in-Ok : goal.returns-in-Ok
returns-in-Ok c =
    let p = repair-fine _ _ _ _ c.requires.0 c.empty_list-list.ensures _ _ c.in-Ok.is c.repair.ensures in
    as-printed (sym p.1) c.put_model.ensures
