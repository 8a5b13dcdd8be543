-- `names::write_old` meets its contract. The loop's invariant: with the lines from here on put here, all are put.
use mathlib.Core.Path.{subst}
use mathlib.Core.List.{List}
use Prim.Native.Nat.{ℕ}
use native.Mathlib.Omega.{arith}
use Rattle.print.proofs.LaidLaws.{Next, left-all, left_as, left-room, left-next, left-none}
use Rattle.named.specs.NamedText.{lines_text}
use Rattle.namelaws.specs.OldLines.{old_lines}
use Rattle.cutlaws.specs.Cutting.{CutIs}
use Rattle.cutlaws.proofs.Copies.{lines-stop, lines-over, lines_cut}
use Rattle.namecut.specs.declared.Cut.{Cut}
use Rattle.namecut.specs.Cuts.{cut_text, CutAs}
use Rattle.names.proofs.write_old.Goals as goal
use Rattle.names.proofs.write_old.Goals.{At-loop-at, In-Some}

abbrev loop_of : In-Some → At-loop-at
loop_of c = (goal.at.In-Some c).At-loop-at

abbrev text_of : At-loop-at → List ℕ
text_of l = l.args.text.now

abbrev places_of : At-loop-at → List ℕ
places_of l = l.args.places.now

abbrev cut_at : In-Some → Cut
cut_at c = c.in-Some.c

cut : (c : In-Some)
    → let l = loop_of c in
    let x = cut_at c in
    CutIs (text_of l) (places_of l) l.loop-at.at x.stop x.go x.next x.action
cut c = let l = loop_of c in subst (CutAs (text_of l) (places_of l) l.loop-at.at) c.in-Some.is c.cut_at.ensures

here : (c : In-Some)
    → let l = loop_of c in
    let a = l.args in
    Next a.out.now 0 (lines_text (old_lines (text_of l) (places_of l) a.from)) l.loop-at.out l.loop-at.to (cut_text (text_of l) l.loop-at.at (cut_at c))
    (lines_text (old_lines (text_of l) (places_of l) (cut_at c).next))
here c =
    let l = loop_of c in
    let x = cut_at c in
    left_as l.loop-at.invariant _ _ (lines_cut (text_of l) (places_of l) l.loop-at.at x.stop x.go x.next x.action (cut c))

pub loop-at-init : goal.loop-at-init
loop-at-init c = left-all c.args.out.now 0 (lines_text (old_lines c.args.text.now c.args.places.now c.args.from)) c.requires.3

pub cut_at-requires : goal.cut_at-requires
cut_at-requires c = (c.requires.0, c.loop-at-test.true, c.requires.2)

pub put_cut-to-requires : goal.put_cut-to-requires
put_cut-to-requires c = ((cut (goal.at.put_cut-to-requires c).In-Some).ordered, left-room (here (goal.at.put_cut-to-requires c).In-Some))

pub loop-at-smaller : goal.loop-at-smaller
loop-at-smaller c = let o = (cut (goal.at.loop-at-smaller c).In-Some).ordered in omega (arith, o.more, o.inside)

pub loop-at-preserved : goal.loop-at-preserved
loop-at-preserved c = left-next (here (goal.at.loop-at-preserved c).In-Some) c.put_cut-to.ensures

pub returns-in-None : goal.returns-in-None
returns-in-None c = left-none c.loop-at.invariant (lines-stop (text_of (goal.at.returns-in-None c).At-loop-at) (places_of (goal.at.returns-in-None c).At-loop-at) c.loop-at.at (subst (CutAs (text_of (goal.at.returns-in-None c).At-loop-at) (places_of (goal.at.returns-in-None c).At-loop-at) c.loop-at.at) c.in-None.is c.cut_at.ensures))

pub returns : goal.returns
returns c = left-none c.loop-at.invariant (lines-over (text_of (goal.at.returns c).At-loop-at) (places_of (goal.at.returns c).At-loop-at) c.loop-at.at c.loop-at-test.false)
