-- What each turn of the loop of `lacking::walk_component` keeps.
use mathlib.Core.Path.{◌≡◌}
use Prim.Native.Nat.{ℕ, ◌-◌}
use mathlib.Core.List.{List}
use lib.ListN.{length}
use Rattle.laws.specs.Fold.{spread}
use Rattle.lacking.specs.Walk.{out_of, walked, lack_of, cells_in, cells_by}
use Rattle.lacking.proofs.walk_component.Given as goal

abbrev pub at : List ℕ → ℕ → ℕ → List (List ℕ)
at t i s = cells_in (lack_of t i s) i s

abbrev pub invariant-loop-s : goal.invariant-loop-s
invariant-loop-s l = (length l.list ≡ length l.initial.list) × (walked l.write (spread (at l.t l.i) l.s (l.states - l.s)) (out_of l.m l.list) ≡ walked l.write (cells_by l.t l.i) (out_of l.initial.m l.initial.list))
