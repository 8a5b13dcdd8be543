-- `marks::joined`: every place passed is joined.
use Prim.Native.Nat.{◌-◌}
use mathlib.Core.Path.{◌≡◌, refl}
use mathlib.Core.Bool.{false, ◌||◌, ◌&&◌}
use native.Mathlib.Omega.{arith}
use lib.ListN.{get_or}
use borrow.Author.Rules.{rules}
use Rattle.marks.proofs.Filling.{place-more}
use Rattle.marks.proofs.joined.Goals as goal

pub loop-j-init : goal.loop-j-init
loop-j-init c = (search rules, search rules, λ i h. absurd (omega arith))

pub overflow_step-j : goal.overflow_step-j
overflow_step-j c = omega arith

pub loop-j-smaller : goal.loop-j-smaller
loop-j-smaller c = omega arith

pub loop-j-preserved : goal.loop-j-preserved
loop-j-preserved c = let l = c.loop-j in
    let x = c.args in (
      search rules,
      omega arith,
      place-more (λ i v. v ≡ (get_or x.x i false || (x.on && get_or x.y i false))) false l.next l.j _ (search rules) l.invariant.2 refl,
    )

pub returns : goal.returns
returns c = λ j h. c.loop-j.invariant.2 j (omega arith)
