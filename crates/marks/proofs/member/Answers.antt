-- `marks::member` meets its contract.
use Rattle.marks.proofs.member.Goals as goal

pub returns-then-on : goal.returns-then-on
returns-then-on c = rw c.if-on.true c.single.ensures

pub returns-else-on : goal.returns-else-on
returns-else-on c = rw c.if-on.false
