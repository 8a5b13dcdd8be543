-- `linking::singles` meets its contract: every place passed has its own set.
use mathlib.Core.Path.{◌≡◌}
use native.Mathlib.Omega.{arith}
use Rattle.laws.specs.Sets.{only}
use Rattle.marks.proofs.Filling.{place-more}
use Rattle.linking.proofs.Walking.{own-sets}
use borrow.Author.Rules.{rules}
use Rattle.linking.proofs.singles.Goals as goal

pub loop-a-init : goal.loop-a-init
loop-a-init c = (c.requires, omega arith, λ j h. absurd (omega arith))

pub loop-a-preserved : goal.loop-a-preserved
loop-a-preserved c = let l = c.loop-a in
    (search rules, omega arith, place-more (λ j x. x ≡ only j) 0 l.table l.a _ (search rules) l.invariant.2 c.single.ensures)

pub returns : goal.returns
returns c = let l = c.loop-a in own-sets l.table l.invariant.0 (λ j h. l.invariant.2 j (omega arith))
