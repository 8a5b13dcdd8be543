-- What each turn of the loop of `lacking::walk_set` keeps.
use mathlib.Core.Path.{◌≡◌}
use Prim.Native.Nat.{◌-◌}
use lib.ListN.{length}
use Rattle.laws.specs.Fold.{spread}
use Rattle.answer.specs.Limits.{max_actions}
use Rattle.lacking.specs.Walk.{out_of, walked, cell_in, cells_in}
use Rattle.lacking.proofs.walk_set.Given as goal

abbrev pub invariant-loop-a : goal.invariant-loop-a
invariant-loop-a l = (length l.list ≡ length l.initial.list) × (walked l.write (spread (cell_in l.lacking l.i l.s) l.a (max_actions - l.a)) (out_of l.m l.list)
    ≡ walked l.write (cells_in l.lacking l.i l.s) (out_of l.initial.m l.initial.list))
