-- `marks::turn` meets its contract.
use mathlib.Core.Path.{sym, ◌∙◌}
use Rattle.marks.proofs.Going.{passed-idle}
use Rattle.marks.proofs.turn.Goals as goal

pub returns-then-has : goal.returns-then-has
returns-then-has c = c.pass.ensures

pub returns-else-has : goal.returns-else-has
returns-else-has c = passed-idle _ _ _ c.requires.0 c.requires.1 c.requires.2 (sym c.has.ensures ∙ c.if-has.false)
