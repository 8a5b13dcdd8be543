-- `elements::be_part` meets its contract.
use mathlib.Core.Path.{◌∙◌}
use Rattle.elements.proofs.PartLaws.{own-move, no_move}
use Rattle.elements.proofs.be_part.Goals as goal

pub returns-then-of-number : goal.returns-then-of-number
returns-then-of-number c = let a = c.args in c.be_move.ensures ∙ own-move a.number a.k a.s a.of a.signal c.if-of-number.true

pub returns-else-of-number : goal.returns-else-of-number
returns-else-of-number c = let a = c.args in no_move a.number a.k a.s a.of a.signal c.if-of-number.false
