-- What each turn of the loop of `firing::action_of` keeps.
use mathlib.Core.Path.{◌≡◌}
use Prim.Native.Nat.{◌≤◌}
use lib.ListN.{drop}
use Rattle.answer.specs.State.{parts_of}
use Rattle.timing.specs.Timed.{clock_row_of}
use Rattle.layout.specs.Image.{model_of}
use Rattle.firing.proofs.action_of.Given as goal

abbrev pub invariant-loop-i : goal.invariant-loop-i
invariant-loop-i l = (l.i ≤ l.n) × (clock_row_of (drop l.i (model_of l.t)) (drop l.i (parts_of l.x)) l.c ≡ clock_row_of (model_of l.t) (parts_of l.x) l.c)
