-- `clashing::put_model` meets its contract: by what 18 says.
use Rattle.tell.proofs.TellLaws.{put_as}
use Rattle.clashing.proofs.Meeting.{says-clash, says-confluent}
use Rattle.clashing.proofs.put_model.Goals as goal

pub check_meeting-requires : goal.check_meeting-requires
check_meeting-requires c = let p = c.requires in (p.0, p.1)

pub put_place-requires : goal.put_place-requires
put_place-requires c = let z = says-clash c.args.t.now c.requires.0 c.requires.1 c.in-Err.f c.in-Err.ensures in
    (c.requires.0, z.0, c.requires.2)

pub put_confluent-requires : goal.put_confluent-requires
put_confluent-requires c = c.requires.2

pub returns-in-Err : goal.returns-in-Err
returns-in-Err c = let z = says-clash c.args.t.now c.requires.0 c.requires.1 c.in-Err.f c.in-Err.ensures in
    put_as z.1 c.put_place.ensures

pub returns-in-Ok : goal.returns-in-Ok
returns-in-Ok c = put_as (says-confluent c.args.t.now c.requires.0 c.requires.1 c.in-Ok.ensures)
    c.put_confluent.ensures
