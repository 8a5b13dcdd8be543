-- What each turn of the loop of `planting::put_firsts` keeps.
use Prim.Native.Nat.{◌+◌, ◌-◌, ◌≤◌}
use mathlib.Core.Path.{◌≡◌}
use lib.ListN.{length}
use lib.Seq.{sets}
use Rattle.laws.specs.Fold.{tab}
use Rattle.elements.specs.Parts.{element_of}
use Rattle.planting.specs.Planted.{start_of}
use Rattle.planting.proofs.put_firsts.Given as goal

abbrev pub invariant-loop-s : goal.invariant-loop-s
invariant-loop-s l = (length l.into ≡ length l.initial.into) × (l.n ≡ start_of l.base l.words l.count (element_of l.e) l.k l.s) × (l.s ≤ l.states)
    × (sets l.into (l.at + l.s) (tab (start_of l.base l.words l.count (element_of l.e) l.k) l.s (l.states - l.s))
    ≡ sets l.initial.into l.at (tab (start_of l.base l.words l.count (element_of l.e) l.k) 0 l.states))

abbrev pub decreases-loop-s : goal.decreases-loop-s
decreases-loop-s l = l.states - l.s
