-- `treetests::check_conditions` meets its contract.
use mathlib.Core.Path.{◌∙◌, ap}
use mathlib.Core.Option.{some}
use Rattle.treetests.proofs.PassLaws.{told-properly}
use Rattle.treetests.proofs.check_conditions.Goals as goal

pub returns : goal.returns
returns c = c.lowest_broken.ensures ∙ ap some (told-properly _ c.requires _ _ c.is_cyclic-cyclic.ensures c.gather_all-g.ensures)
