-- `elements::box_kind_part` meets its contract.
use mathlib.Core.Path.{◌∙◌}
use Rattle.elements.proofs.PartLaws.{box-kind-is, box-kind-none}
use Rattle.elements.proofs.box_kind_part.Goals as goal

pub returns-then-p-i : goal.returns-then-p-i
returns-then-p-i c = let a = c.args in
    c.box_kind.ensures _ ∙ box-kind-is a.i a.of _ a.signal c.place_of-p.ensures c.if-p-i.true

pub returns-else-p-i : goal.returns-else-p-i
returns-else-p-i c = let a = c.args in box-kind-none a.i a.of _ a.signal c.place_of-p.ensures c.if-p-i.false
