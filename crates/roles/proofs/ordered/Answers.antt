-- `roles::ordered` meets its contract.
use borrow.Author.Tests.{eq-eqb, ne_eqb}
use Rattle.roles.proofs.ordered.Goals as goal

pub returns-then-broken-eq1 : goal.returns-then-broken-eq1
returns-then-broken-eq1 c = let a = c.args in rw (eq-eqb a.broken 1 c.if-broken-eq1.true, c.single.ensures)

pub returns-else-broken-eq1 : goal.returns-else-broken-eq1
returns-else-broken-eq1 c = let a = c.args in rw (ne_eqb a.broken 1 c.if-broken-eq1.false) c.to.ensures
