-- What each turn of the loop of `treerows::emit_states` keeps.
use mathlib.Core.Path.{◌≡◌}
use Prim.Native.Nat.{◌*◌, ◌-◌}
use lib.ListN.{length}
use Rattle.laws.specs.Fold.{spread}
use Rattle.answer.specs.Limits.{max_elements, max_actions}
use Rattle.product.specs.Walk.{out_of, listed}
use Rattle.elements.specs.Parts.{element_of}
use Rattle.treerows.specs.Rows.{state_rows, element_rows, Room}
use Rattle.treerows.proofs.emit_states.Given as goal

abbrev pub invariant-loop-s : goal.invariant-loop-s
invariant-loop-s l = (length l.into ≡ length l.initial.into)
    × (listed l.limit (spread (state_rows l.words l.count (element_of l.e) l.k) l.s (l.states - l.s)) (out_of l.m l.into)
    ≡ listed l.limit (element_rows l.words l.count (element_of l.e) l.k) (out_of l.initial.m l.initial.into))
    × Room l.limit (max_actions * (max_elements - l.s)) (out_of l.m l.into)

abbrev pub decreases-loop-s : goal.decreases-loop-s
decreases-loop-s l = l.states - l.s
