-- `explain::put_table` meets its contract: as `accept` says.
use native.Mathlib.Omega.{arith}
use Rattle.admit.proofs.Exactly.{accept-fine}
use Rattle.tell.proofs.TellLaws.{put_as}
use Rattle.steplines.proofs.Most.{refused-short}
use Rattle.explain.proofs.Called.{unaccepted-line}
use Rattle.explain.proofs.put_table.Goals as goal

pub put_refused-requires : goal.put_refused-requires
put_refused-requires c = omega (arith, refused-short c.in-Err.f, c.requires.1)

pub put_model-requires : goal.put_model-requires
put_model-requires c = (c.requires.0, (accept-fine _ c.in-Ok.ensures).accepted, c.requires.1)

pub returns-in-Err : goal.returns-in-Err
returns-in-Err c = let e = unaccepted-line c.args.t.now c.requires.0 c.in-Err.f c.in-Err.ensures in
    put_as e c.put_refused.ensures
