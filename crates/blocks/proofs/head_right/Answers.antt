-- `blocks::head_right`: test by test.
use mathlib.Core.Path.{sym, ◌∙◌}
use Rattle.laws.proofs.TestLaws.{both-no, both_go}
use Rattle.blocks.specs.Blocks.{head_right}
use Rattle.blocks.proofs.head_right.Goals as goal

pub returns-then-sizes_right : goal.returns-then-sizes_right
unfolding head_right
returns-then-sizes_right c = c.sets_right.ensures ∙ sym (both_go _ _ (sym c.sizes_right.ensures ∙ c.if-sizes_right.true))

pub returns-else-sizes_right : goal.returns-else-sizes_right
unfolding head_right
returns-else-sizes_right c = sym (both-no _ _ (sym c.sizes_right.ensures ∙ c.if-sizes_right.false))
