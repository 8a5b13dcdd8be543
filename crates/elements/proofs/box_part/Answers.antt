-- `elements::box_part` meets its contract.
use mathlib.Core.Path.{◌∙◌}
use Rattle.elements.proofs.PartLaws.{box-move-is, box-move-none}
use Rattle.elements.proofs.box_part.Goals as goal

pub returns-then-p-i : goal.returns-then-p-i
returns-then-p-i c = let a = c.args in
    c.box_move.ensures ∙ box-move-is a.i a.of _ a.signal c.place_of-p.ensures a.s c.if-p-i.true

pub returns-else-p-i : goal.returns-else-p-i
returns-else-p-i c = let a = c.args in
    box-move-none a.i a.of _ a.signal c.place_of-p.ensures a.s c.if-p-i.false
