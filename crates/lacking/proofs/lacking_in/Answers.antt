-- `lacking::lacking_in`: the inputs without the actions of the range.
use mathlib.Core.Path.{◌∙◌, ap₂}
use Rattle.laws.specs.Sets.{◌∪◌, ◌∖◌}
use Rattle.lacking.specs.Walk.{lack_in}
use Rattle.lacking.proofs.lacking_in.Goals as goal

pub returns : goal.returns
unfolding lack_in
returns c = c.minus.ensures ∙ ap₂ (λ x y. x ∖ y) (c.union.ensures ∙ ap₂ (λ x y. x ∪ y) c.block_word-ins.ensures
    c.block_word-uins.ensures) c.actions_from.ensures
