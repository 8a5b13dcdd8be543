-- `naming::put_lines` meets its contract. The loop's invariant: with the lines from here on put here, all are put.
use mathlib.Core.Path.{◌≡◌, ◌∙◌, ap, subst}
use mathlib.Core.List.{List, []}
use Prim.Native.Nat.{ℕ}
use native.Mathlib.Omega.{arith}
use Rattle.print.proofs.LaidLaws.{Next, left-all, left_as, left-room, left-next, left-none}
use Rattle.naminglaws.specs.Naming.{entries_at, default_lines}
use Rattle.naminglaws.proofs.LineLaws.{entries_over}
use Rattle.naminglaws.proofs.Walks.{lines_none, lines_next, part-more}
use Rattle.naming.specs.declared.Part.{Part}
use Rattle.naming.specs.Parts.{PartOf, PartAs, part_bytes}
use Rattle.naming.proofs.put_lines.Goals as goal
use Rattle.naming.proofs.put_lines.Goals.{At-loop-at, In-Some}

abbrev loop_of : In-Some → At-loop-at
loop_of c = (goal.at.In-Some c).At-loop-at

abbrev text_of : At-loop-at → List ℕ
text_of l = l.args.text.now

abbrev part_at : In-Some → Part
part_at c = c.in-Some.p

part : (c : In-Some) → let l = loop_of c in PartOf (text_of l) l.loop-at.at (part_at c)
part c = let l = loop_of c in subst (PartAs (text_of l) l.loop-at.at) c.in-Some.is c.part_at.ensures

here : (c : In-Some)
    → let l = loop_of c in
    let a = l.args in
    Next a.out.now a.to (default_lines (entries_at (text_of l) 0)) l.loop-at.out l.loop-at.next (part_bytes (text_of l) l.loop-at.at (part_at c))
    (default_lines (entries_at (text_of l) (part_at c).next))
here c =
    let l = loop_of c in
    let p = part_at c in
    left_as l.loop-at.invariant.left _ _ (lines_next (text_of l) l.loop-at.at p.place p.declares p.next (part c))

none_left : (l : At-loop-at) → entries_at (text_of l) l.loop-at.at ≡ [] → default_lines (entries_at (text_of l) l.loop-at.at) ≡ []
none_left l e = ap default_lines e ∙ lines_none

pub loop-at-init : goal.loop-at-init
loop-at-init c = record { inside = omega arith; left = left-all c.args.out.now c.args.to (default_lines (entries_at c.args.text.now 0)) c.requires }

pub part_at-requires : goal.part_at-requires
part_at-requires c = c.loop-at.invariant.inside

pub put_part-next-requires : goal.put_part-next-requires
put_part-next-requires c = (part (goal.at.put_part-next-requires c).In-Some, left-room (here (goal.at.put_part-next-requires c).In-Some))

pub loop-at-smaller : goal.loop-at-smaller
loop-at-smaller c = let l = loop_of (goal.at.loop-at-smaller c).In-Some in
    let p = part_at (goal.at.loop-at-smaller c).In-Some in
    omega (arith, part-more (text_of l) l.loop-at.at p.place p.declares p.next (part (goal.at.loop-at-smaller c).In-Some), (part (goal.at.loop-at-smaller c).In-Some).inside)

pub loop-at-preserved : goal.loop-at-preserved
loop-at-preserved c = record { inside = (part (goal.at.loop-at-preserved c).In-Some).inside; left = left-next (here (goal.at.loop-at-preserved c).In-Some) c.put_part-next.ensures }

pub returns-in-None : goal.returns-in-None
returns-in-None c = left-none c.loop-at.invariant.left (none_left (goal.at.returns-in-None c).At-loop-at (subst (PartAs (text_of (goal.at.returns-in-None c).At-loop-at) c.loop-at.at) c.in-None.is c.part_at.ensures))

pub returns : goal.returns
returns c = left-none c.loop-at.invariant.left (none_left (goal.at.returns c).At-loop-at (entries_over (text_of (goal.at.returns c).At-loop-at) c.loop-at.at c.loop-at-test.false))
