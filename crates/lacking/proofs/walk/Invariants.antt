-- What each turn of the loop of `lacking::walk` keeps.
use mathlib.Core.Path.{◌≡◌}
use Prim.Native.Nat.{◌-◌}
use lib.ListN.{length}
use Rattle.laws.specs.Fold.{spread}
use Rattle.layout.specs.Image.{model_of}
use Rattle.lacking.specs.Repair.{added_to}
use Rattle.lacking.specs.Walk.{out_of, walked, cells_by}
use Rattle.lacking.proofs.walk.Given as goal

abbrev pub invariant-loop-i : goal.invariant-loop-i
invariant-loop-i l = (length l.list ≡ length l.initial.list) × (walked l.write (spread (cells_by l.t) l.i (l.count - l.i)) (out_of l.m l.list) ≡ walked l.write (added_to (model_of l.t)) (out_of l.initial.m l.initial.list))
