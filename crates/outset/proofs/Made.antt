-- An array made by calls of a closure that stays as it is: each place holds the value of its index.
use mathlib.Core.Path.{◌≡◌, sym, ◌∙◌, ap, subst}
use mathlib.Core.List.{List}
use Prim.Native.Nat.{ℕ, zero, suc, ◌+◌, ◌≤◌, ◌<◌}
use native.Mathlib.Omega.{arith}
use native.Mathlib.Decide.{ℕ_discrete}
use denote.Param.Members.{Mut}
use lib.ListN.{get_or}
use Rattle.std.specs.Array.{IsFromFnResultFrom, IsFromFnResult}
use Rattle.std.specs.Fn.{Called}

module _ {F : Type 0} (g : Mut F (ℕ × Unit {0}) ℕ) (v : ℕ → ℕ) (f : F) (ys : List ℕ) (m : ℕ)
    (one : (i y : ℕ) (q : F) → i < m → Called g f (i, tt) y q → (q ≡ f) × (y ≡ v i)) where
  from : (n i : ℕ) → i + n ≡ m → IsFromFnResultFrom g f ys i n → (k : ℕ) → i ≤ k → k < m → get_or ys k 0 ≡ v k
  from zero i e h k p q = absurd (omega arith)
  from (suc n) i e (s, y, at, call, rest) k p q =
      let w = one i y s (omega arith) call in
      elim (ℕ_discrete k i) [
        | yes z ↦ ap (λ j. get_or ys j 0) z ∙ at.1 0 ∙ w.1 ∙ sym (ap v z)
        | no z ↦ from n (i + 1) (omega arith) (subst (λ u. IsFromFnResultFrom g u ys (i + 1) n) w.0 rest) k (omega arith) q
      ]

  pub made-at : IsFromFnResult g f ys m → (k : ℕ) → k < m → get_or ys k 0 ≡ v k
  made-at h k q = from m 0 (omega arith) h.each k (omega arith) q
