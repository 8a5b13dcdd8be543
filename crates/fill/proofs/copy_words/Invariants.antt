-- What each turn of the loop of `fill::copy_words` keeps.
use Prim.Native.Nat.{◌+◌, ◌-◌}
use mathlib.Core.Path.{◌≡◌}
use lib.ListN.{length, get_or}
use lib.Seq.{sets}
use Rattle.laws.specs.Fold.{tab}
use Rattle.fill.specs.Words.{words_from}
use Rattle.fill.proofs.copy_words.Given as goal

abbrev pub invariant-loop-k : goal.invariant-loop-k
invariant-loop-k l =
    (length l.into ≡ length l.initial.into)
    × (sets l.into (l.at + l.k) (tab (λ j. get_or l.t (l.from + j) 0) l.k (l.n - l.k)) ≡ sets l.initial.into l.at (words_from l.t l.from l.n))

abbrev pub decreases-loop-k : goal.decreases-loop-k
decreases-loop-k l = l.n - l.k
