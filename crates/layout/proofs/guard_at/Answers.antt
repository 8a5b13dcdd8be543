-- `layout::guard_at`: the second word of row r.
use mathlib.Core.Path.{refl}
use Rattle.layout.specs.Layout.{guard_at}
use Rattle.layout.proofs.guard_at.Goals as goal

pub returns : goal.returns
unfolding guard_at
returns c = refl
