-- What each turn of the loop of `pairs::check_shared` keeps.
use mathlib.Core.Path.{◌≡◌}
use Prim.Native.Nat.{◌-◌}
use Rattle.laws.specs.Search.{seek}
use Rattle.iosa.specs.Checks.{clash_in}
use Rattle.layout.specs.Image.{model_of}
use Rattle.pairs.proofs.Clashing.{test_of}
use Rattle.pairs.proofs.check_shared.Given as goal

abbrev pub invariant-loop-i : goal.invariant-loop-i
invariant-loop-i l = seek (clash_in (test_of l.kind) (model_of l.t) l.x) l.i l.n ≡ seek (clash_in (test_of l.kind) (model_of l.t) l.x) 0 l.n

abbrev pub decreases-loop-i : goal.decreases-loop-i
decreases-loop-i l = l.n - l.i
