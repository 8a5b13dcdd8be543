-- `layout::count_of`: the first word.
use mathlib.Core.Path.{refl}
use Rattle.layout.specs.Layout.{count_of}
use Rattle.layout.proofs.count_of.Goals as goal

pub returns : goal.returns
unfolding count_of
returns c = refl
