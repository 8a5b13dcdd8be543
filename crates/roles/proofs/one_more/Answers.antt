-- `roles::one_more` meets its contract.
use Rattle.roles.proofs.MoveLaws.{more-all, more-told, more-calm}
use Rattle.roles.proofs.one_more.Goals as goal

pub returns-then-c-eq2 : goal.returns-then-c-eq2
returns-then-c-eq2 c = let a = c.args in more-all a.n a.sf a.su a.c c.if-c-eq2.true

pub returns-then-c-n : goal.returns-then-c-n
returns-then-c-n c = let a = c.args in more-told a.n a.sf a.su a.c c.if-c-eq2.false c.if-c-n.true

pub returns : goal.returns
returns c = let a = c.args in more-calm a.n a.sf a.su a.c c.if-c-eq2.false c.if-c-n.false
