-- What each turn of the loop of `mending::put_all` keeps.
use mathlib.Core.Path.{◌≡◌}
use Prim.Native.Nat.{◌≤◌}
use lib.ListN.{length}
use Rattle.layout.specs.Layout.{count_of}
use Rattle.mending.specs.Standing.{AtStart, Reached}
use Rattle.mending.proofs.put_all.Given as goal

abbrev pub invariant-loop-i : goal.invariant-loop-i
invariant-loop-i l = (length l.t ≡ length l.initial.t) × (l.i ≤ l.count) × ((p : AtStart l.initial.t l.n) → l.count ≡ count_of p.old → Reached p l.t l.i l.w)
