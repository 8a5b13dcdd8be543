-- `meanings::inputs_set` meets its contract. The loop's invariant: the inputs so far, with those from here on, are all.
use Prim.Native.Nat.{◌-◌}
use native.Mathlib.Omega.{arith}
use Rattle.meanings.proofs.Gathering.{some-begins, some-on, some-ends}
use Rattle.meanings.proofs.inputs_set.Goals as goal

pub loop-j-init : goal.loop-j-init
loop-j-init c = some-begins _

pub single-requires : goal.single-requires
single-requires c = let h = c.requires c.loop-j.j c.loop-j-test.true in
    omega (arith, h, c.input_at-x.ensures)

pub loop-j-preserved : goal.loop-j-preserved
loop-j-preserved c = some-on _ _ _ c.loop-j.invariant c.loop-j-test.true _ _ _ c.input_at-x.ensures c.single.ensures c.union-set.ensures

pub returns : goal.returns
returns c = some-ends _ _ _ c.loop-j.invariant c.loop-j-test.false
