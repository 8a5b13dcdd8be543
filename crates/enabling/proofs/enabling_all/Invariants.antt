-- What each turn of the loop of `enabling::enabling_all` keeps.
use mathlib.Core.Path.{◌≡◌}
use Prim.Native.Nat.{◌≤◌}
use lib.ListN.{drop}
use Rattle.laws.specs.Sets.{◌∪◌}
use Rattle.answer.specs.State.{parts_of}
use Rattle.timing.specs.Timed.{enabling_all}
use Rattle.layout.specs.Image.{model_of}
use Rattle.enabling.proofs.enabling_all.Given as goal

abbrev pub invariant-loop-i : goal.invariant-loop-i
invariant-loop-i l = (l.i ≤ l.n) × (l.set ∪ enabling_all (drop l.i (model_of l.t)) (drop l.i (parts_of l.x)) ≡ enabling_all (model_of l.t) (parts_of l.x))
