-- `treelines::placed` meets its contract.
use Rattle.treelines.proofs.InputLaws.{placed-0, placed-1, placed-2, placed-3, placed-4}
use Rattle.treelines.proofs.placed.Goals as goal

pub returns-then-at-eq0 : goal.returns-then-at-eq0
returns-then-at-eq0 c = placed-0 _ _ _ c.if-at-eq0.true

pub returns-then-at-eq1 : goal.returns-then-at-eq1
returns-then-at-eq1 c = placed-1 _ _ _ c.if-at-eq0.false c.if-at-eq1.true

pub returns-then-at-eq2 : goal.returns-then-at-eq2
returns-then-at-eq2 c = placed-2 _ _ _ c.if-at-eq0.false c.if-at-eq1.false c.if-at-eq2.true

pub returns-then-at-eq3 : goal.returns-then-at-eq3
returns-then-at-eq3 c = placed-3 _ _ _ c.if-at-eq0.false c.if-at-eq1.false c.if-at-eq2.false c.if-at-eq3.true

pub returns : goal.returns
returns c = placed-4 _ _ _ c.if-at-eq0.false c.if-at-eq1.false c.if-at-eq2.false c.if-at-eq3.false
