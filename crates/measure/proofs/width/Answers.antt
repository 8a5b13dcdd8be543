-- `measure::width`: a number has as many digits as the powers of ten that it reaches, and one.
use mathlib.Core.Path.{sym}
use Rattle.measure.proofs.Fields.{width-1, width-2, width-3, width-4, width-5}
use Rattle.measure.proofs.width.Goals as goal

pub returns-then-n-lt10 : goal.returns-then-n-lt10
returns-then-n-lt10 c = sym (width-1 c.args.n c.if-n-lt10.true)

pub returns-then-n-lt100 : goal.returns-then-n-lt100
returns-then-n-lt100 c = sym (width-2 c.args.n c.if-n-lt10.false c.if-n-lt100.true)

pub returns-then-n-lt1000 : goal.returns-then-n-lt1000
returns-then-n-lt1000 c = sym (width-3 c.args.n c.if-n-lt100.false c.if-n-lt1000.true)

pub returns-then-n-lt10000 : goal.returns-then-n-lt10000
returns-then-n-lt10000 c = sym (width-4 c.args.n c.if-n-lt1000.false c.if-n-lt10000.true)

pub returns-else-n-lt10000 : goal.returns-else-n-lt10000
returns-else-n-lt10000 c = sym (width-5 c.args.n c.if-n-lt10000.false)
