-- `lacking::put_cell`: three stores are the cell, where the walk writes.
use native.Mathlib.Omega.{arith}
use lib.ListN.{length-set}
use Rattle.lacking.proofs.WalkLaws.{cell-stored}
use Rattle.lacking.proofs.put_cell.Goals as goal

pub bounds-list-at : goal.bounds-list-at
bounds-list-at c = omega (arith, c.requires.4 c.if-write.true)

pub bounds-list-at-then-write : goal.bounds-list-at-then-write
bounds-list-at-then-write c = simp length-set (omega (arith, c.requires.4 c.if-write.true))

pub bounds-list-at-then-write-2 : goal.bounds-list-at-then-write-2
bounds-list-at-then-write-2 c = simp length-set (omega (arith, c.requires.4 c.if-write.true))

pub returns-then-write : goal.returns-then-write
returns-then-write c = cell-stored c.args.write c.args.list.now c.args.rows c.args.x.component c.args.x.state c.args.x.action
    c.if-write.true
