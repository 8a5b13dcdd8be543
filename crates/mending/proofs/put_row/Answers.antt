-- `mending::put_row`: four stores.
use Prim.Native.Nat.{◌+◌, ◌*◌}
use native.Mathlib.Omega.{arith}
use lib.ListN.{length-set}
use Rattle.layout.specs.Layout.{row_words, rows_at}
use Rattle.mending.proofs.SetsAt.{row-stored}
use Rattle.mending.proofs.put_row.Goals as goal

pub bounds-t-at-2 : goal.bounds-t-at-2
bounds-t-at-2 c = simp length-set (omega (arith, c.requires.0, c.requires.1))

pub bounds-t-at-3 : goal.bounds-t-at-3
bounds-t-at-3 c = simp length-set (omega (arith, c.requires.0, c.requires.1))

pub bounds-t-at-4 : goal.bounds-t-at-4
bounds-t-at-4 c = simp length-set (omega (arith, c.requires.0, c.requires.1))

pub returns : goal.returns
returns c = row-stored c.args.t.now (rows_at + row_words * c.args.v) c.args.action c.args.guard c.args.resets c.args.target
