-- The first test is told, or what the second says.
use native.Mathlib.Omega.{arith}
use Rattle.printout.proofs.Printing.{as-printed}
use Rattle.checker.proofs.Testing.{is-confluent, is-not}
use Rattle.checker.proofs.put_tested.Goals as goal

pub returns-in-Err : goal.returns-in-Err
returns-in-Err c = as-printed (is-not _ c.requires.0 _ c.confluent.ensures _ c.in-Err.is) c.put_else.ensures

pub returns-in-Ok : goal.returns-in-Ok
returns-in-Ok c =
    as-printed (is-confluent _ c.requires.0 _ c.confluent.ensures c.in-Ok.is) (record { put = c.put_word.ensures; room = omega (arith, c.requires.1) })
