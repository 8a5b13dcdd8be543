-- `mending::takes_row`: the two tests.
use mathlib.Core.Path.{◌∙◌}
use borrow.Author.Tests.{le-ltb}
use Rattle.mending.proofs.Stepwise.{takes-some, takes_none}
use Rattle.mending.proofs.takes_row.Goals as goal

pub returns-then-r-hi : goal.returns-then-r-hi
returns-then-r-hi c = takes-some c.args.t.now c.args.s c.args.hi c.args.left c.args.r _ _ c.if-r-hi.true c.action_at.ensures
    c.lowest.ensures

pub returns-else-r-hi : goal.returns-else-r-hi
returns-else-r-hi c = le-ltb c.args.r c.args.hi c.if-r-hi.false ∙ takes_none c.args.t.now c.args.s c.args.hi c.args.left c.args.r c.if-r-hi.false
