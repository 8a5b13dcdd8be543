-- `parts::bad_guard` meets its contract.
use mathlib.Core.Path.{◌≡◌, refl, ◌∙◌}
use mathlib.Core.Bool.{Bool, true, false, ◌&&◌, ◌||◌, not, true≢false, false≢true}
use lib.Dec.{eqb}
use borrow.Author.Tests.{eq-eqb, ne_eqb}
use Rattle.laws.specs.Sets.{has}
use Rattle.parts.specs.Faults.{bad_guard_by}
use Rattle.parts.proofs.bad_guard.Goals as goal

unguarded : (x y b : Bool) → b ≡ true → y ≡ ((x && not b) || (y && b))
unguarded true true true e = refl
unguarded true false true e = refl
unguarded false true true e = refl
unguarded false false true e = refl
unguarded x y false e = absurd (false≢true e)

guarded : (x y b : Bool) → b ≡ false → x ≡ ((x && not b) || (y && b))
guarded true true false e = refl
guarded true false false e = refl
guarded false true false e = refl
guarded false false false e = refl
guarded x y true e = absurd (true≢false e)

pub returns-then-g-eq0 : goal.returns-then-g-eq0
unfolding bad_guard_by
returns-then-g-eq0 c = let a = c.args in
    c.has.ensures ∙ unguarded (has a.calm a.a) (has a.outs a.a) (eqb a.g 0) (eq-eqb _ _ c.if-g-eq0.true)

pub returns-else-g-eq0 : goal.returns-else-g-eq0
unfolding bad_guard_by
returns-else-g-eq0 c = let a = c.args in
    c.has-else-g-eq0.ensures ∙ guarded (has a.calm a.a) (has a.outs a.a) (eqb a.g 0) (ne_eqb _ _ c.if-g-eq0.false)
