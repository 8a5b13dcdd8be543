-- `measure::kinds_width`: the lines of each kind, by the members that no earlier kind has.
use mathlib.Core.Path.{◌≡◌}
use Prim.Native.Nat.{ℕ, ◌+◌}
use native.Mathlib.Omega.{arith}
use Rattle.laws.specs.Sets.{◌∪◌, ◌∖◌}
use Rattle.measure.specs.Measure.{per_member, kinds_width}
use Rattle.measure.proofs.Fields.{members-most}
use Rattle.measure.proofs.kinds_width.Goals as goal

total : (i o u v two three b d e p q r s : ℕ) → two ≡ i ∪ o → three ≡ two ∪ u → b ≡ o ∖ i → d ≡ u ∖ two → e ≡ v ∖ three
    → p ≡ per_member i 8 → q ≡ per_member b 9 → r ≡ per_member d 9 → s ≡ per_member e 10 → p + q + r + s ≡ kinds_width i o u v
total i o u v two three b d e p q r s h2 h3 hb hd he hp hq hr hs = cc

pub overflow_add-result : goal.overflow_add-result
overflow_add-result c = omega (arith, members-most c.args.ins 8, members-most c.minus.result 9)

pub overflow_add-result-2 : goal.overflow_add-result-2
overflow_add-result-2 c = omega (arith, members-most c.args.ins 8, members-most c.minus.result 9, members-most c.minus-2.result 9)

pub overflow_add-result-3 : goal.overflow_add-result-3
overflow_add-result-3 c = omega (
  arith,
  members-most c.args.ins 8,
  members-most c.minus.result 9,
  members-most c.minus-2.result 9,
  members-most c.minus-3.result 10,
)

pub returns : goal.returns
returns c = let a = c.args in
    total a.ins a.outs a.uins a.uouts _ _ _ _ _ _ _ _ _ c.union-two.ensures c.union-three.ensures
    c.minus.ensures c.minus-2.ensures c.minus-3.ensures c.per_member.ensures
    c.per_member-2.ensures c.per_member-3.ensures c.per_member-4.ensures
