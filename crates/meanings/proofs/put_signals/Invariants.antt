-- What each turn of the loop of `meanings::put_signals` keeps.
use mathlib.Core.Path.{◌≡◌}
use Prim.Native.Nat.{◌+◌, ◌-◌}
use lib.ListN.{length}
use lib.Seq.{sets}
use Rattle.laws.specs.Fold.{tab}
use Rattle.meanings.proofs.put_signals.Given as goal

abbrev pub invariant-loop-k : goal.invariant-loop-k
invariant-loop-k l = (length l.words ≡ length l.initial.words) × (sets l.words (l.at + l.k) (tab (λ j. l.w + j) l.k (l.n - l.k)) ≡ sets l.initial.words l.at (tab (λ j. l.w + j) 0 l.n))

abbrev pub decreases-loop-k : goal.decreases-loop-k
decreases-loop-k l = l.n - l.k
