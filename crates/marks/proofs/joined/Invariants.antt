-- What each turn of the loop of `marks::joined` keeps.
use Prim.Native.Nat.{ℕ, ◌-◌, ◌<◌, ◌≤◌}
use mathlib.Core.Path.{◌≡◌}
use mathlib.Core.Bool.{false, ◌||◌, ◌&&◌}
use lib.ListN.{length, get_or}
use Rattle.marks.proofs.joined.Given as goal

abbrev pub invariant-loop-j : goal.invariant-loop-j
invariant-loop-j l = (length l.next ≡ 64) × (l.j ≤ 64) × ((i : ℕ) → i < l.j → get_or l.next i false ≡ (get_or l.x i false || (l.on && get_or l.y i false)))

abbrev pub decreases-loop-j : goal.decreases-loop-j
decreases-loop-j l = 64 - l.j
