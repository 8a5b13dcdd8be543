-- What each turn of the loop of `treerows::kinds_of` keeps.
use mathlib.Core.Path.{◌≡◌}
use Prim.Native.Nat.{◌-◌, ◌≤◌}
use Rattle.elements.specs.Parts.{element_of}
use Rattle.treerows.specs.KindSets.{kinds_below, word_kind}
use Rattle.treerows.proofs.kinds_of.Given as goal

abbrev pub invariant-loop-a : goal.invariant-loop-a
invariant-loop-a l = (l.a ≤ l.count) × (l.h ≡ kinds_below (word_kind l.words (element_of l.e)) l.a)

abbrev pub decreases-loop-a : goal.decreases-loop-a
decreases-loop-a l = l.count - l.a
