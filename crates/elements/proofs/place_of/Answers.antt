-- `elements::place_of` meets its contract. The loop's invariant: what is found from here on is what is found at all.
use Prim.Native.Nat.{◌-◌}
use Rattle.elements.proofs.PartLaws.{looking-begins, looking-here, looking-on, looking-ends}
use Rattle.elements.proofs.place_of.Goals as goal

pub loop-j-init : goal.loop-j-init
loop-j-init c = looking-begins _ _

pub returns-then-v-x : goal.returns-then-v-x
returns-then-v-x c = looking-here _ _ _ c.loop-j.invariant c.loop-j-test.true _ c.input_at-x.ensures c.if-v-x.true

pub loop-j-preserved : goal.loop-j-preserved
loop-j-preserved c = looking-on _ _ _ c.loop-j.invariant c.loop-j-test.true _ c.input_at-x.ensures c.if-v-x.false

pub returns : goal.returns
returns c = looking-ends _ _ _ c.loop-j.invariant c.loop-j-test.false
