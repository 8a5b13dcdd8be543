-- Laws of pairs as numbers: the pair (s, t) with t below n is s * n + t.
use mathlib.Core.Path.{◌≡◌, ap}
use Prim.Native.Nat.{ℕ, ◌+◌, ◌*◌, ◌<◌}
use native.Mathlib.Omega.{arith}
use native.Mathlib.Nat.{mul-le-mul_right}
use Rattle.laws.proofs.TestLaws.{apart-cases}

-- a lower first part makes a lower number
pub pair_lt : (n : ℕ) {s s' t : ℕ} (t' : ℕ) → s < s' → t < n → s * n + t < s' * n + t'
pair_lt n t' h k = omega (arith, mul-le-mul_right n h)

pub pair-below : (m n : ℕ) {s t : ℕ} → s < m → t < n → s * n + t < m * n
pair-below m n h k = omega (arith, mul-le-mul_right n h)

-- a pair is told by its number
pub pair_parts : (n s s' t t' : ℕ) → t < n → t' < n → s * n + t ≡ s' * n + t' → (s ≡ s') × (t ≡ t')
pair_parts n s s' t t' h k e =
    apart-cases {P = (s ≡ s') × (t ≡ t')} s s'
    (λ w. (w, omega (arith, ap (λ z. z * n) w)))
    (λ w. absurd (omega (arith, pair_lt n t' w h)))
    (λ w. absurd (omega (arith, pair_lt n t w k)))
