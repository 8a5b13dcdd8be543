-- `mending::put_next`: the row or the loop.
use mathlib.Core.Path.{sym, ◌∙◌}
use native.Mathlib.Omega.{arith}
use Rattle.mending.proofs.Stepwise.{takes-below, put-taken, put-loop}
use Rattle.mending.proofs.put_next.Goals as goal

pub move_row-requires : goal.move_row-requires
move_row-requires c = (c.requires.0, c.requires.2, omega (arith, c.requires.1, takes-below _ _ _ _ (sym c.takes_row-takes.ensures ∙ c.if-takes.true)))

pub overflow_add-result : goal.overflow_add-result
overflow_add-result c = omega (arith, c.requires.1, takes-below _ _ _ _ (sym c.takes_row-takes.ensures ∙ c.if-takes.true))

pub returns-then-takes : goal.returns-then-takes
returns-then-takes c = put-taken c.args.t.now c.args.s c.args.hi c.args.v c.args.x _ (sym c.takes_row-takes.ensures ∙ c.if-takes.true)
    c.move_row.ensures

pub returns-else-takes : goal.returns-else-takes
returns-else-takes c = put-loop c.args.t.now c.args.s c.args.hi c.args.v c.args.x _ _ _ (sym c.takes_row-takes.ensures ∙ c.if-takes.false)
    c.lowest.ensures c.later.ensures c.put_row.ensures
