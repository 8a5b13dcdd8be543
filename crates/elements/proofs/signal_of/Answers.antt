-- `elements::signal_of` meets its contract.
use Prim.Native.Nat.{◌%◌}
use Rattle.elements.proofs.PartLaws.{is-fl, is_up, is_f, is-u, is-r}
use Rattle.elements.proofs.signal_of.Goals as goal

pub returns-then-k-eq0 : goal.returns-then-k-eq0
returns-then-k-eq0 c = is-fl (c.args.w % 8) c.if-k-eq0.true

pub returns-then-k-eq1 : goal.returns-then-k-eq1
returns-then-k-eq1 c = is_up (c.args.w % 8) c.if-k-eq0.false c.if-k-eq1.true

pub returns-then-k-eq2 : goal.returns-then-k-eq2
returns-then-k-eq2 c = is_f (c.args.w % 8) c.if-k-eq0.false c.if-k-eq1.false c.if-k-eq2.true

pub returns-then-k-eq3 : goal.returns-then-k-eq3
returns-then-k-eq3 c = is-u (c.args.w % 8) c.if-k-eq0.false c.if-k-eq1.false c.if-k-eq2.false c.if-k-eq3.true

pub returns : goal.returns
returns c = is-r (c.args.w % 8) c.if-k-eq0.false c.if-k-eq1.false c.if-k-eq2.false c.if-k-eq3.false
