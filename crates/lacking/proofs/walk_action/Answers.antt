-- `lacking::walk_action`: the cell where the set has the action.
use mathlib.Core.Path.{sym, ◌∙◌, subst}
use Rattle.lacking.specs.Walk.{Roomy}
use Rattle.lacking.proofs.WalkLaws.{cell-there, cell-not}
use Rattle.lacking.proofs.walk_action.Goals as goal

pub walk_cell-requires : goal.walk_cell-requires
walk_cell-requires c = let p = c.requires in
    (p.0, p.1, p.2, subst (Roomy _) (cell-there _ _ _ _ _ _ (sym c.has.ensures ∙ c.if-has.true)) p.3)

pub returns-then-has : goal.returns-then-has
returns-then-has c = c.walk_cell.ensures ∙ sym (cell-there _ _ _ _ _ _ (sym c.has.ensures ∙ c.if-has.true))

pub returns-else-has : goal.returns-else-has
returns-else-has c = sym (cell-not _ _ _ _ _ _ (sym c.has.ensures ∙ c.if-has.false))
