-- A guard is none or one clock: what its set of clocks tells.
use mathlib.Core.Path.{◌≡◌, refl, sym, ap, subst}
use mathlib.Core.Logic.{◌≢◌}
use Prim.Native.Nat.{ℕ, zero, suc}
use native.Mathlib.Omega.{arith}
use lib.Pow.{pow_pos}
use Rattle.laws.specs.Sets.{◌∈◌, only}
use Rattle.laws.proofs.SetLaws.{in_one, one_in, none_in}
use Rattle.model.specs.Model.{guard_set}

pub guard-zero : (g : ℕ) → guard_set g ≡ 0 → g ≡ 0
guard-zero zero e = refl
guard-zero (suc x) e = absurd (omega (arith, pow_pos x))

pub guard-some : (g : ℕ) → g ≢ 0 → (x : ℕ) × (guard_set g ≡ only x)
guard-some zero ne = absurd (ne refl)
guard-some (suc x) ne = (x, refl)

pub only-some : (x : ℕ) → only x ≢ 0
only-some x e = omega (arith, pow_pos x)

-- a clock in a guard's set is the guard
pub guard-in : (g x : ℕ) → x ∈ guard_set g → g ≡ suc x
guard-in zero x h = absurd (none_in x h)
guard-in (suc y) x h = ap suc (sym (one_in y x h))

pub in-guard : (g x : ℕ) → g ≡ suc x → x ∈ guard_set g
in-guard g x e = rw e (in_one x)

-- guards with the same set are the same
pub guard-same : (g h : ℕ) → guard_set g ≡ guard_set h → g ≡ h
guard-same zero h e = sym (guard-zero h (sym e))
guard-same (suc x) h e = sym (guard-in h x (subst (λ n. x ∈ n) e (in_one x)))
