-- `names::old_length` meets its contract. The loop's invariant: what was counted, with the lines from here on, is all.
use mathlib.Core.Path.{ap, subst}
use mathlib.Core.List.{List}
use Prim.Native.Nat.{ℕ, ◌+◌, ◌-◌, ◌≤◌}
use native.Mathlib.Omega.{arith}
use lib.ListN.{length}
use Rattle.cutlaws.specs.Cutting.{number_part, CutIs}
use Rattle.cutlaws.proofs.Copies.{measured-first, measured-stop, measured-over, measured-next, cut-length, cut_most}
use Rattle.namecut.specs.declared.Cut.{Cut}
use Rattle.namecut.specs.Cuts.{CutAs}
use Rattle.names.proofs.old_length.Goals as goal
use Rattle.names.proofs.old_length.Goals.{At-loop-at, In-Some}

abbrev loop_of : In-Some → At-loop-at
loop_of c = (goal.at.In-Some c).At-loop-at

abbrev text_of : At-loop-at → List ℕ
text_of l = l.args.text.now

abbrev places_of : At-loop-at → List ℕ
places_of l = l.args.places.now

abbrev cut_at : In-Some → Cut
cut_at c = c.in-Some.c

cut : (c : In-Some)
    → let l = loop_of c in
    let x = cut_at c in
    CutIs (text_of l) (places_of l) l.loop-at.at x.stop x.go x.next x.action
cut c = let l = loop_of c in subst (CutAs (text_of l) (places_of l) l.loop-at.at) c.in-Some.is c.cut_at.ensures

most : (c : In-Some)
    → let l = loop_of c in
    let x = cut_at c in
    (l.loop-at.sum + (x.stop - l.loop-at.at) + length (number_part x.action) + (x.next - x.go)) ≤ 196608
most c =
    let l = loop_of c in
    let x = cut_at c in
    let k = cut c in
    omega (
      arith,
      l.loop-at.invariant.most,
      cut-length (text_of l) (places_of l) l.loop-at.at x.stop x.go x.next x.action k,
      cut_most (text_of l) (places_of l) l.loop-at.at x.stop x.go x.next x.action k,
      k.ordered.inside,
      l.requires.2,
    )

pub loop-at-init : goal.loop-at-init
loop-at-init c = measured-first c.args.text.now c.args.places.now c.args.from c.requires.1

pub cut_at-requires : goal.cut_at-requires
cut_at-requires c = (c.requires.0, c.loop-at-test.true, c.requires.2)

pub overflow_sub-sum : goal.overflow_sub-sum
overflow_sub-sum c = omega (arith, (cut (goal.at.overflow_sub-sum c).In-Some).ordered.first)

pub overflow_add-sum : goal.overflow_add-sum
overflow_add-sum c = omega (arith, most (goal.at.overflow_add-sum c).In-Some)

pub overflow_add-sum-in-Some : goal.overflow_add-sum-in-Some
overflow_add-sum-in-Some c = omega (arith, most (goal.at.overflow_add-sum-in-Some c).In-Some, c.number_width.ensures)

pub overflow_sub-sum-in-Some : goal.overflow_sub-sum-in-Some
overflow_sub-sum-in-Some c = omega (arith, (cut (goal.at.overflow_sub-sum-in-Some c).In-Some).ordered.last)

pub overflow_add-sum-in-Some-2 : goal.overflow_add-sum-in-Some-2
overflow_add-sum-in-Some-2 c = omega (arith, most (goal.at.overflow_add-sum-in-Some-2 c).In-Some, c.number_width.ensures)

pub loop-at-smaller : goal.loop-at-smaller
loop-at-smaller c = let o = (cut (goal.at.loop-at-smaller c).In-Some).ordered in omega (arith, o.more, o.inside)

pub loop-at-preserved : goal.loop-at-preserved
loop-at-preserved c = let l = loop_of (goal.at.loop-at-preserved c).In-Some in
    let x = cut_at (goal.at.loop-at-preserved c).In-Some in
    measured-next (text_of l) (places_of l) _ l.loop-at.at l.loop-at.sum l.loop-at.invariant x.stop x.go x.next x.action _ (cut (goal.at.loop-at-preserved c).In-Some)
    (ap (λ n. l.loop-at.sum + (x.stop - l.loop-at.at) + n + (x.next - x.go)) c.number_width.ensures)

pub returns-in-None : goal.returns-in-None
returns-in-None c = measured-stop (text_of (goal.at.returns-in-None c).At-loop-at) (places_of (goal.at.returns-in-None c).At-loop-at) _ c.loop-at.at c.loop-at.sum c.loop-at.invariant (subst (CutAs (text_of (goal.at.returns-in-None c).At-loop-at) (places_of (goal.at.returns-in-None c).At-loop-at) c.loop-at.at) c.in-None.is c.cut_at.ensures)

pub returns : goal.returns
returns c = measured-over (text_of (goal.at.returns c).At-loop-at) (places_of (goal.at.returns c).At-loop-at) _ c.loop-at.at c.loop-at.sum c.loop-at.invariant c.loop-at-test.false
