-- Values within the range of 28 and their differences fit a machine's word, and the fall of one clock by its cases.
use mathlib.Core.Path.{◌≡◌}
use mathlib.Core.Bool.{Bool, true, false, cond}
use Prim.Native.Nat.{ℕ, ◌-◌, ◌≤◌}
use native.Mathlib.Omega.{arith}
use lib.IntN.{ℤ, pos, negsuc}
use lib.Signed.{mag}
use mir.Val.{SFits, to_z, of_z}
use mir.ValLaws.{to_z-of_z}
use mir.Syntax.{w64}
use borrow.Author.Tests.{leb-true}
use Rattle.answer.specs.Limits.{max_ticks}
use Rattle.ticks.specs.Ticks.{Tick}

-- ---- sizes
mag-tick : (z : ℤ) → Tick z → mag z ≤ max_ticks
mag-tick (pos n) t = leb-true n max_ticks t.high
mag-tick (negsuc n) t = omega (arith, leb-true n (max_ticks - 1) t.low)

picked : (b : Bool) (x y : ℤ) (m : ℕ) → mag x ≤ m → mag y ≤ m → mag (cond b x y) ≤ m
picked true x y m hx hy = hx
picked false x y m hx hy = hy

pub tick-fits : (z : ℤ) → Tick z → SFits w64 z
tick-fits z t = record { sfits = omega (arith, mag-tick z t) }

-- ---- through a machine's word and back
pub tick-back : (z : ℤ) → Tick z → to_z w64 (of_z w64 z) ≡ z
tick-back z t = to_z-of_z w64 z (tick-fits z t)

pub tick-through : (z : ℤ) → Tick z → Tick (to_z w64 (of_z w64 z))
tick-through z t = rw (tick-back z t) t
