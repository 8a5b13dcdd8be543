-- `elements::be_kind_part` meets its contract.
use mathlib.Core.Path.{◌∙◌, ap}
use mathlib.Core.Option.{some}
use Rattle.elements.proofs.PartLaws.{own-kind, no_kind}
use Rattle.elements.proofs.be_kind_part.Goals as goal

pub returns-then-of-number : goal.returns-then-of-number
returns-then-of-number c = let a = c.args in ap (λ x. some x) c.be_kind.ensures ∙ own-kind a.number 0 0 a.of a.signal c.if-of-number.true

pub returns-else-of-number : goal.returns-else-of-number
returns-else-of-number c = let a = c.args in no_kind a.number 0 0 a.of a.signal c.if-of-number.false
