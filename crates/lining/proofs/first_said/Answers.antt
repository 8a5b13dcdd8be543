-- `lining::first_said` meets its contract: round 0.
use mathlib.Core.Path.{◌∙◌}
use Rattle.layout.proofs.ImageIsSane.{image-long, count-below}
use Rattle.layout.proofs.JoinedInModel.{started-joined}
use Rattle.rounds.proofs.Going.{first-posed, first-closes}
use borrow.Author.Rules.{rules}
use Rattle.lining.proofs.Lined.{first-said}
use Rattle.lining.proofs.first_said.Goals as goal

pub joined-resets-requires : goal.joined-resets-requires
joined-resets-requires c = let im = c.requires.0.image in (image-long _ im, count-below _ im, search rules)

pub close_said-requires : goal.close_said-requires
close_said-requires c = (c.requires.1, first-posed _ c.requires.0 _ c.start_state-state.ensures _ c.requires.2)

pub returns : goal.returns
returns c = first-said _ _ _ (λ r. first-closes _ c.requires.0 _ c.start_state-state.ensures _ _ _ _ _ (c.joined-resets.ensures
    ∙ started-joined _) _ c.requires.2 r _ _ _)
    c.close_said.ensures
