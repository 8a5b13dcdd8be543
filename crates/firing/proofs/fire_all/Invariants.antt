-- What each turn of the loop of `firing::fire_all` keeps.
use mathlib.Core.Path.{◌≡◌}
use mathlib.Core.List.{◌++◌}
use Prim.Native.Nat.{◌≤◌}
use lib.ListN.{length, take, drop}
use Rattle.answer.specs.Limits.{max_components}
use Rattle.answer.specs.State.{parts_of}
use Rattle.laws.specs.Sets.{◌∪◌}
use Rattle.layout.specs.Image.{model_of}
use Rattle.moves.specs.Moves.{reset_by, after_by}
use Rattle.firing.specs.Fired.{fired_one}
use Rattle.firing.proofs.fire_all.Given as goal

abbrev pub invariant-loop-i : goal.invariant-loop-i
invariant-loop-i l = (l.i ≤ l.n)
    × (l.next.count ≡ l.x.count)
    × (length l.next.parts ≡ max_components)
    × (take l.i l.next.parts ++ after_by (fired_one l.c l.a) (drop l.i (model_of l.t)) (drop l.i (parts_of l.x)) ≡ after_by (fired_one l.c l.a) (model_of l.t) (parts_of l.x))
    × (drop l.i l.next.parts ≡ drop l.i l.x.parts)
    × (l.resets ∪ reset_by (fired_one l.c l.a) (drop l.i (model_of l.t)) (drop l.i (parts_of l.x)) ≡ reset_by (fired_one l.c l.a) (model_of l.t) (parts_of l.x))
