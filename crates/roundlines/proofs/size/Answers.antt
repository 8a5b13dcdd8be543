-- `roundlines::size` meets its contract.
use mathlib.Core.Path.{◌≡◌, sym, ap, ◌∙◌, subst}
use mathlib.Core.Bool.{true, false}
use Prim.Native.Nat.{◌+◌}
use native.Mathlib.Omega.{arith}
use lib.Dec.{T}
use lib.IntN.{ℤ, pos, nat_abs}
use lib.Signed.{lt_z, non_neg}
use mir.Val.{Fits, SFits, to_z, of_z}
use mir.ValLaws.{to_z-of_z}
use mir.Syntax.{w64}
use Rattle.roundlines.proofs.Digits.{Below, below_by, own_sign, own-fits}
use Rattle.roundlines.proofs.size.Goals as goal
use Rattle.roundlines.proofs.size.Goals.{Else-v-lt0, Start, Then-v-lt0}

back : (c : Start) → to_z w64 (of_z w64 c.args.v) ≡ c.args.v
back c = to_z-of_z w64 c.args.v c.ranges.v

below : (c : Then-v-lt0) → lt_z c.args.v (pos 0) ≡ true
below c = ap (λ (z : ℤ). lt_z z (pos 0)) (sym (back (goal.at.Then-v-lt0 c).Start)) ∙ c.if-v-lt0.true

own : (c : Else-v-lt0) → lt_z c.args.v (pos 0) ≡ false
own c = ap (λ (z : ℤ). lt_z z (pos 0)) (sym (back (goal.at.Else-v-lt0 c).Start)) ∙ c.if-v-lt0.false

by : (c : Then-v-lt0) → Below c.args.v
by c = below_by c.args.v c.ranges.v (below c)

pub overflow_sub-y : goal.overflow_sub-y
overflow_sub-y c = subst (λ (y : ℤ). SFits w64 y) (sym (by (goal.at.overflow_sub-y c).Then-v-lt0).differs) (record { sfits = omega (arith, (by (goal.at.overflow_sub-y c).Then-v-lt0).fits) })

pub overflow_cast-result : goal.overflow_cast-result
overflow_cast-result c = subst (λ (y : ℤ). T (non_neg y) × Fits w64 (nat_abs y)) (sym (by (goal.at.overflow_cast-result c).Then-v-lt0).back) (tt, record { fits = omega (arith, (by (goal.at.overflow_cast-result c).Then-v-lt0).fits) })

pub overflow_add-result : goal.overflow_add-result
overflow_add-result c = subst (λ (y : ℤ). Fits w64 (nat_abs y + 1)) (sym (by (goal.at.overflow_add-result c).Then-v-lt0).back) (record { fits = omega (arith, (by (goal.at.overflow_add-result c).Then-v-lt0).fits) })

pub returns-then-v-lt0 : goal.returns-then-v-lt0
returns-then-v-lt0 c = let more : (by (goal.at.returns-then-v-lt0 c).Then-v-lt0).most + 1 ≡ nat_abs c.args.v = omega (arith, (by (goal.at.returns-then-v-lt0 c).Then-v-lt0).size) in
    ap (λ (y : ℤ). nat_abs y + 1) (by (goal.at.returns-then-v-lt0 c).Then-v-lt0).back ∙ more

pub overflow_cast-result-2 : goal.overflow_cast-result-2
overflow_cast-result-2 c = let z = c.args.v in let f = c.ranges.v in rw (back (goal.at.overflow_cast-result-2 c).Start) (own_sign z f (own (goal.at.overflow_cast-result-2 c).Else-v-lt0), own-fits z f (own (goal.at.overflow_cast-result-2 c).Else-v-lt0))
