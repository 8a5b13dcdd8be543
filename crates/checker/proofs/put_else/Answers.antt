-- The second test is told, or what it refuses.
use native.Mathlib.Omega.{arith}
use Rattle.printout.proofs.Printing.{printed-line, as-printed}
use Rattle.checker.proofs.Testing.{is-orderly, is-neither}
use Rattle.checker.proofs.put_else.Goals as goal

pub returns-in-Err : goal.returns-in-Err
returns-in-Err c =
    let p = is-neither _ c.requires.0 _ c.orderly.ensures c.in-Err.f c.in-Err.is in
    printed-line c.in-Err.f p.0 _ p.1 p.2 c.put_refusal.ensures

pub returns-in-Ok : goal.returns-in-Ok
returns-in-Ok c =
    as-printed (is-orderly _ c.requires.0 _ c.orderly.ensures c.in-Ok.is) (record { put = c.put_word.ensures; room = omega (arith, c.requires.1) })
