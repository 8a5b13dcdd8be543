-- `report::put_answer` meets its contract.
use native.Mathlib.Omega.{arith}
use Rattle.tell.proofs.TellLaws.{put_as}
use Rattle.steplines.proofs.Most.{refused-most}
use Rattle.report.proofs.ReportLaws.{checked-fine, checked_refused}
use Rattle.report.proofs.put_answer.Goals as goal

pub put_refused-requires : goal.put_refused-requires
put_refused-requires c = omega (arith, refused-most c.in-Err.f, c.requires.1)

pub put_settled-requires : goal.put_settled-requires
put_settled-requires c = let t = c.args.t.now in
    let r = c.check_entry in
    let p = checked-fine t c.args.x r.result r.ensures c.in-Ok.is in
    (c.requires.0, p.0, p.1, c.requires.1)

pub returns-in-Err : goal.returns-in-Err
returns-in-Err c = let t = c.args.t.now in
    let r = c.check_entry in
    let e = checked_refused t c.args.x r.result r.ensures c.in-Err.f c.in-Err.is c.args.budget in
    put_as e c.put_refused.ensures
