-- `naming::sum_lines` meets its contract. The loop's invariant: what was added up, with the lines from here on, is all.
use mathlib.Core.Path.{ap, subst}
use mathlib.Core.List.{List}
use Prim.Native.Nat.{ℕ, ◌+◌, ◌-◌, ◌≤◌}
use native.Mathlib.Omega.{arith}
use lib.ListN.{length}
use Rattle.naminglaws.specs.Naming.{letter_part}
use Rattle.naminglaws.proofs.LineLaws.{entries_over}
use Rattle.naminglaws.proofs.Walks.{summed-first, summed-none, summed-next, part-more, part-most}
use Rattle.naming.specs.declared.Part.{Part}
use Rattle.naming.specs.Parts.{PartOf, PartAs}
use Rattle.naming.proofs.sum_lines.Goals as goal
use Rattle.naming.proofs.sum_lines.Goals.{At-loop-at, In-Some}

abbrev loop_of : In-Some → At-loop-at
loop_of c = (goal.at.In-Some c).At-loop-at

abbrev text_of : At-loop-at → List ℕ
text_of l = l.args.text.now

abbrev part_at : In-Some → Part
part_at c = c.in-Some.p

part : (c : In-Some) → let l = loop_of c in PartOf (text_of l) l.loop-at.at (part_at c)
part c = let l = loop_of c in subst (PartAs (text_of l) l.loop-at.at) c.in-Some.is c.part_at.ensures

most : (c : In-Some)
    → let l = loop_of c in
    let p = part_at c in
    (l.loop-at.length + (p.next - l.loop-at.at) + length (letter_part p.place)) ≤ 65536
most c =
    let l = loop_of c in
    let p = part_at c in
    let k = part c in
    omega (
      arith,
      l.loop-at.invariant.most,
      part-more (text_of l) l.loop-at.at p.place p.declares p.next k,
      part-most (text_of l) l.loop-at.at p.place p.declares p.next k,
      k.inside,
      l.requires,
    )

pub loop-at-init : goal.loop-at-init
loop-at-init c = summed-first c.args.text.now

pub part_at-requires : goal.part_at-requires
part_at-requires c = c.loop-at.invariant.inside

pub overflow_sub-length : goal.overflow_sub-length
overflow_sub-length c = let l = loop_of (goal.at.overflow_sub-length c).In-Some in
    let p = part_at (goal.at.overflow_sub-length c).In-Some in
    omega (arith, part-more (text_of l) l.loop-at.at p.place p.declares p.next (part (goal.at.overflow_sub-length c).In-Some))

pub overflow_add-length : goal.overflow_add-length
overflow_add-length c = omega (arith, most (goal.at.overflow_add-length c).In-Some)

pub overflow_add-length-in-Some : goal.overflow_add-length-in-Some
overflow_add-length-in-Some c = omega (arith, most (goal.at.overflow_add-length-in-Some c).In-Some, c.letter_width.ensures)

pub loop-at-smaller : goal.loop-at-smaller
loop-at-smaller c = let l = loop_of (goal.at.loop-at-smaller c).In-Some in
    let p = part_at (goal.at.loop-at-smaller c).In-Some in
    omega (arith, part-more (text_of l) l.loop-at.at p.place p.declares p.next (part (goal.at.loop-at-smaller c).In-Some), (part (goal.at.loop-at-smaller c).In-Some).inside)

pub loop-at-preserved : goal.loop-at-preserved
loop-at-preserved c = let l = loop_of (goal.at.loop-at-preserved c).In-Some in
    let p = part_at (goal.at.loop-at-preserved c).In-Some in
    summed-next (text_of l) l.loop-at.at l.loop-at.declared l.loop-at.length l.loop-at.invariant p.place p.declares p.next _ _ (part (goal.at.loop-at-preserved c).In-Some)
    c.union-declared.ensures
    (ap (λ n. l.loop-at.length + (p.next - l.loop-at.at) + n) c.letter_width.ensures)

pub returns-in-None : goal.returns-in-None
returns-in-None c = summed-none (text_of (goal.at.returns-in-None c).At-loop-at) c.loop-at.at c.loop-at.declared c.loop-at.length c.loop-at.invariant
    (subst (PartAs (text_of (goal.at.returns-in-None c).At-loop-at) c.loop-at.at) c.in-None.is c.part_at.ensures)

pub returns : goal.returns
returns c = summed-none (text_of (goal.at.returns c).At-loop-at) c.loop-at.at c.loop-at.declared c.loop-at.length c.loop-at.invariant (entries_over (text_of (goal.at.returns c).At-loop-at) c.loop-at.at c.loop-at-test.false)
