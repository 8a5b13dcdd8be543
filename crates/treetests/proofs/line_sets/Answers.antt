-- `treetests::line_sets` meets its contract. The loop's invariant: those taken, with those from here on, are all.
use Prim.Native.Nat.{◌-◌}
use Rattle.treetests.proofs.InputLaws.{taking-begins, taking-on, taking-done, line-done}
use Rattle.treetests.proofs.line_sets.Goals as goal

pub loop-j-init : goal.loop-j-init
loop-j-init c = taking-begins _ _

pub take_in-more-requires : goal.take_in-more-requires
take_in-more-requires c = rw c.input_at-x.ensures (c.requires.inputs _ c.loop-j-test.true)

pub loop-j-preserved : goal.loop-j-preserved
loop-j-preserved c = taking-on _ _ c.loop-j.s c.loop-j.j c.loop-j.invariant c.loop-j-test.true _ (rw c.input_at-x.ensures at c.take_in-more.ensures)

pub returns : goal.returns
returns c = line-done _ _ c.single.ensures _ (taking-done _ _ _ _ c.loop-j.invariant c.loop-j-test.false)
