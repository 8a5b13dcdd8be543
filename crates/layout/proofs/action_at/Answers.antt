-- `layout::action_at`: the first word of row r.
use mathlib.Core.Path.{refl}
use Rattle.layout.specs.Layout.{action_at}
use Rattle.layout.proofs.action_at.Goals as goal

pub returns : goal.returns
unfolding action_at
returns c = refl
