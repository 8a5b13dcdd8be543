-- `layout::target_at`: the fourth word of row r.
use mathlib.Core.Path.{refl}
use Rattle.layout.specs.Layout.{target_at}
use Rattle.layout.proofs.target_at.Goals as goal

pub returns : goal.returns
unfolding target_at
returns c = refl
