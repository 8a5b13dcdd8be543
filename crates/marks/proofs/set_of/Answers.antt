-- `marks::set_of` meets its contract: a member for each mark passed.
use Prim.Native.Nat.{◌-◌}
use native.Mathlib.Omega.{arith}
use Rattle.marks.proofs.Filling.{no-members, one-member}
use borrow.Author.Rules.{rules}
use Rattle.marks.proofs.set_of.Goals as goal

pub loop-j-init : goal.loop-j-init
loop-j-init c = (search rules, no-members _)

pub loop-j-preserved : goal.loop-j-preserved
loop-j-preserved c = let l = c.loop-j in
    (omega arith, rw (c.union-all.ensures, c.member.ensures) (one-member _ l.j l.all l.invariant.1))

pub returns : goal.returns
returns c = record { marks = λ b h. c.loop-j.invariant.1.below b (omega arith) }
