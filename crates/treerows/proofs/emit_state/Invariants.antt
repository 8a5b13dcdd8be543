-- What each turn of the loop of `treerows::emit_state` keeps.
use mathlib.Core.Path.{◌≡◌}
use Prim.Native.Nat.{◌-◌}
use lib.ListN.{length}
use Rattle.laws.specs.Fold.{spread}
use Rattle.product.specs.Walk.{out_of, listed}
use Rattle.elements.specs.Parts.{element_of}
use Rattle.treerows.specs.Rows.{word_rows, state_rows, Room}
use Rattle.treerows.proofs.emit_state.Given as goal

abbrev pub invariant-loop-a : goal.invariant-loop-a
invariant-loop-a l = (length l.into ≡ length l.initial.into)
    × (listed l.limit (spread (word_rows l.words (element_of l.e) l.k l.s) l.a (l.count - l.a)) (out_of l.m l.into) ≡ listed l.limit (state_rows l.words l.count (element_of l.e) l.k l.s)
    (out_of l.initial.m l.initial.into))
    × Room l.limit (l.count - l.a) (out_of l.m l.into)

abbrev pub decreases-loop-a : goal.decreases-loop-a
decreases-loop-a l = l.count - l.a
