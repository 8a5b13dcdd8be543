-- `marks::busy` meets its contract: the numbers passed are in the set exactly if they lead elsewhere.
use mathlib.Core.Path.{◌≡◌, ◌∙◌, ap}
use mathlib.Core.Bool.{not, cond}
use Prim.Native.Nat.{◌-◌}
use native.Mathlib.Omega.{arith}
use lib.ListN.{get_or}
use lib.Dec.{eqb}
use Rattle.laws.specs.Sets.{only, ◌∖◌, ◌∪◌}
use Rattle.marks.proofs.Filling.{no-members, one-member}
use Rattle.marks.proofs.Going.{busy-all}
use borrow.Author.Rules.{rules}
use Rattle.marks.proofs.busy.Invariants.{elsewhere}
use Rattle.marks.proofs.busy.Goals as goal

pub loop-k-init : goal.loop-k-init
loop-k-init c = (search rules, no-members _)

pub loop-k-preserved : goal.loop-k-preserved
loop-k-preserved c = let l = c.loop-k in
    let s = c.args.s.now in
    let e : c.minus-others.result ≡ get_or s l.k 0 ∖ only l.k = c.minus-others.ensures
    ∙ ap (λ o. get_or s l.k 0 ∖ o) c.single.ensures in
    let q = c.member.ensures ∙ ap (λ z. cond (not (eqb z 0)) (only l.k) 0) e in
    (omega arith, rw (c.union-all.ensures ∙ ap (λ z. l.all ∪ z) q) (one-member (elsewhere s) l.k l.all l.invariant.1))

pub returns : goal.returns
returns c = let l = c.loop-k in busy-all _ _ (λ k h. l.invariant.1.below k (omega arith))
