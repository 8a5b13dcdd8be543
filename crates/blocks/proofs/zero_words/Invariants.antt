-- What each turn of the loop of `blocks::zero_words` keeps.
use mathlib.Core.Path.{◌≡◌}
use Prim.Native.Nat.{◌-◌}
use lib.ListN.{get_or}
use lib.Dec.{eqb}
use Rattle.laws.specs.Fold.{all}
use Rattle.laws.specs.Tests.{both}
use Rattle.blocks.specs.Blocks.{zero_words}
use Rattle.blocks.proofs.zero_words.Given as goal

abbrev pub invariant-loop-k : goal.invariant-loop-k
invariant-loop-k l = both (eqb l.any 0) (all (λ j. eqb (get_or l.t j 0) 0) l.k l.hi) ≡ zero_words l.t l.lo l.hi

abbrev pub decreases-loop-k : goal.decreases-loop-k
decreases-loop-k l = l.hi - l.k
