-- `roles::one_less` meets its contract.
use Rattle.roles.proofs.MoveLaws.{less_none, less-told, less-calm}
use Rattle.roles.proofs.one_less.Goals as goal

pub returns-then-c-eq0 : goal.returns-then-c-eq0
returns-then-c-eq0 c = let a = c.args in less_none a.n a.sf a.su a.c c.if-c-eq0.true

pub returns-then-c-n : goal.returns-then-c-n
returns-then-c-n c = let a = c.args in less-told a.n a.sf a.su a.c c.if-c-eq0.false c.if-c-n.true

pub returns : goal.returns
returns c = let a = c.args in less-calm a.n a.sf a.su a.c c.if-c-eq0.false c.if-c-n.false
