-- `treetests::broken` meets its contract.
use mathlib.Core.Path.{refl}
use Rattle.answer.specs.Told.{told, says_checked}
use Rattle.treetests.proofs.broken.Goals as goal

pub returns : goal.returns
unfolding says_checked told
returns c = refl
