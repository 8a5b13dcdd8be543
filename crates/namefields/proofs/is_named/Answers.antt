-- `namefields::is_named` meets its contract.
use mathlib.Core.Path.{◌∙◌}
use Rattle.namefields.proofs.NameLaws.{named_none, named-as}
use Rattle.namefields.proofs.is_named.Goals as goal

pub returns-then-place-eq0 : goal.returns-then-place-eq0
returns-then-place-eq0 c = let a = c.args in named_none a.text.now a.place a.at c.if-place-eq0.true

pub returns : goal.returns
returns c = let a = c.args in c.same_name.ensures ∙ named-as a.text.now a.place a.at c.if-place-eq0.false
