-- `active::guard_set` meets its contract.
use mathlib.Core.Path.{◌≡◌, refl, ap, ◌∙◌}
use Prim.Native.Nat.{ℕ, zero, suc, ◌-◌}
use native.Mathlib.Omega.{arith}
use Rattle.laws.specs.Sets.{only}
use Rattle.model.specs.Model.{guard_set}
use Rattle.active.proofs.guard_set.Goals as goal

single-guard : (g : ℕ) → (g ≡ 0 → ⊥) → only (g - 1) ≡ guard_set g
single-guard zero h = absurd (h refl)
single-guard (suc x) h = ap only (omega arith)

pub returns-then-g-eq0 : goal.returns-then-g-eq0
returns-then-g-eq0 c = rw c.if-g-eq0.true

pub returns-else-g-eq0 : goal.returns-else-g-eq0
returns-else-g-eq0 c = c.single.ensures ∙ single-guard _ c.if-g-eq0.false
