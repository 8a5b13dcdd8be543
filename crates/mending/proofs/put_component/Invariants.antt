-- What each turn of the loop of `mending::put_component` keeps.
use mathlib.Core.Path.{◌≡◌}
use Prim.Native.Nat.{◌≤◌}
use lib.ListN.{length}
use Rattle.layout.specs.Layout.{block_word}
use Rattle.mending.specs.Standing.{AtComp}
use Rattle.mending.proofs.Whole.{Within}
use Rattle.mending.proofs.put_component.Given as goal

abbrev pub invariant-loop-s : goal.invariant-loop-s
invariant-loop-s l = (length l.t ≡ length l.initial.t) × (l.s ≤ l.states) × ((p : AtComp l.initial.t l.n l.i l.initial.k) → l.states ≡ block_word p.old l.i 0 → Within p l.t l.s l.k)
