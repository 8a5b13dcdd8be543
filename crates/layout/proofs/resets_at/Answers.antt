-- `layout::resets_at`: the third word of row r.
use mathlib.Core.Path.{refl}
use Rattle.layout.specs.Layout.{resets_at}
use Rattle.layout.proofs.resets_at.Goals as goal

pub returns : goal.returns
unfolding resets_at
returns c = refl
