-- `treecheck::input_at` meets its contract.
use Rattle.treecheck.proofs.NumberLaws.{at-0, at_1, at-2, at-3, at-4}
use Rattle.treecheck.proofs.input_at.Goals as goal

pub returns-then-k-eq0 : goal.returns-then-k-eq0
returns-then-k-eq0 c = at-0 _ _ c.if-k-eq0.true

pub returns-then-k-eq1 : goal.returns-then-k-eq1
returns-then-k-eq1 c = at_1 _ _ c.if-k-eq0.false c.if-k-eq1.true

pub returns-then-k-eq2 : goal.returns-then-k-eq2
returns-then-k-eq2 c = at-2 _ _ c.if-k-eq0.false c.if-k-eq1.false c.if-k-eq2.true

pub returns-then-k-eq3 : goal.returns-then-k-eq3
returns-then-k-eq3 c = at-3 _ _ c.if-k-eq0.false c.if-k-eq1.false c.if-k-eq2.false c.if-k-eq3.true

pub returns : goal.returns
returns c = at-4 _ _ c.if-k-eq0.false c.if-k-eq1.false c.if-k-eq2.false c.if-k-eq3.false
