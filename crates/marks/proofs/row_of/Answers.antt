-- `marks::row_of` meets its contract: every place passed has its mark.
use Prim.Native.Nat.{◌-◌}
use mathlib.Core.Path.{◌≡◌}
use mathlib.Core.Bool.{false}
use native.Mathlib.Omega.{arith}
use Rattle.laws.specs.Sets.{has}
use Rattle.marks.proofs.Filling.{place-more}
use borrow.Author.Rules.{rules}
use Rattle.marks.proofs.row_of.Goals as goal

pub loop-j-init : goal.loop-j-init
loop-j-init c = (search rules, search rules, λ i h. absurd (omega arith))

pub loop-j-preserved : goal.loop-j-preserved
loop-j-preserved c = let l = c.loop-j in
    let s = c.args.s in
    (search rules, omega arith, place-more (λ i v. v ≡ has s i) false l.next l.j _ (search rules) l.invariant.2 c.has.ensures)

pub returns : goal.returns
returns c = record { marks = λ j h. c.loop-j.invariant.2 j (omega arith) }
