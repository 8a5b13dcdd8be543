-- `names::number_width` meets its contract.
use mathlib.Core.Path.{sym, ◌∙◌, ap}
use lib.ListN.{length}
use Rattle.cutlaws.specs.Cutting.{number_part}
use Rattle.names.proofs.number_width.Goals as goal

pub returns-in-Some : goal.returns-in-Some
returns-in-Some c = c.width.ensures ∙ ap (λ a. length (number_part a)) (sym c.in-Some.is)

pub returns-in-None : goal.returns-in-None
returns-in-None c = ap (λ a. length (number_part a)) (sym c.in-None.is)
