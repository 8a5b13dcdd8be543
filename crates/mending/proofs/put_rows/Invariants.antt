-- What each turn of the loop of `mending::put_rows` keeps.
use mathlib.Core.Path.{◌≡◌}
use Prim.Native.Nat.{◌-◌, ◌≤◌}
use lib.ListN.{length}
use Rattle.mending.specs.Weave.{weave}
use Rattle.mending.proofs.put_rows.Given as goal

abbrev pub invariant-loop-v : goal.invariant-loop-v
invariant-loop-v l = (length l.t ≡ length l.initial.t) × (l.w ≤ l.v) × (weave l.s l.hi (l.end - l.v) l.v l.y.left l.y.r l.t ≡ weave l.s l.hi (l.end - l.w) l.w l.initial.y.left l.initial.y.r l.initial.t)
