-- What each turn of the loop of `treesize::size` keeps.
use mathlib.Core.Path.{◌≡◌}
use lib.ListN.{length, drop}
use Rattle.treesize.proofs.SizeLaws.{Sizing}
use Rattle.treesize.proofs.size.Given as goal

abbrev pub invariant-loop-at : goal.invariant-loop-at
invariant-loop-at l = Sizing l.text l.words l.count l.n l.k l.at × (l.into ≡ l.initial.into)

abbrev pub decreases-loop-at : goal.decreases-loop-at
decreases-loop-at l = length (drop l.at l.text)
