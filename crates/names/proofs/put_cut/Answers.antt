-- `names::put_cut` meets its contract: the bytes before the name, the number, the bytes behind the name.
use mathlib.Core.Path.{refl}
use mathlib.Core.List.{List, ◌++◌}
use native.Mathlib.Omega.{arith}
use Prim.Native.Nat.{ℕ, ◌-◌}
use lib.ListN.{take, drop}
use Rattle.print.proofs.LaidLaws.{Left, Next, left-all, left_as, left-room, left-next, left-last, last-room}
use Rattle.cutlaws.specs.Cutting.{number_part}
use Rattle.cutlaws.proofs.CutLaws.{three-parts}
use Rattle.namecut.specs.Cuts.{cut_text}
use Rattle.names.proofs.put_cut.Goals as goal
use Rattle.names.proofs.put_cut.Goals.{After-put_number-b, After-put_word-a, Start}

-- ---- the parts of the line
abbrev before : Start → List ℕ
before c = let a = c.args in take (a.c.stop - a.at) (drop a.at a.text.now)

abbrev number : Start → List ℕ
number c = let a = c.args in number_part a.c.action

abbrev behind : Start → List ℕ
behind c = let a = c.args in take (a.c.next - a.c.go) (drop a.c.go a.text.now)

abbrev whole : Start → List ℕ
whole c = let a = c.args in cut_text a.text.now a.at a.c

abbrev out : Start → List ℕ
out c = c.args.out.now

abbrev place : Start → ℕ
place c = c.args.to

-- ---- what is left after each of them
all : (c : Start) → Next (out c) (place c) (whole c) (out c) (place c) (before c) (number c ++ behind c)
all c =
    let a = c.args in
    let o = c.requires.0 in
    let t = a.text.now in
    left_as (left-all (out c) (place c) (whole c) c.requires.1) (before c) (number c ++ behind c) (three-parts t a.at a.c.stop a.c.go a.c.next (number c) o.first o.last)

abbrev first : After-put_word-a → Start
first c = (goal.at.After-put_word-a c).Start

one : (c : After-put_word-a)
    → let s = first c in Next (out s) (place s) (whole s) c.put_word-a.new.out c.put_word-a.result (number s) (behind s)
one c = let s = first c in left_as (left-next (all s) c.put_word-a.ensures) (number s) (behind s) refl

abbrev second : After-put_number-b → After-put_word-a
second c = (goal.at.After-put_number-b c).After-put_word-a

two : (c : After-put_number-b)
    → let s = first (second c) in Left (out s) (place s) (whole s) c.put_number-b.new.out c.put_number-b.result (behind s)
two c = left-next (one (second c)) c.put_number-b.ensures

pub slice_bounds-put_word-count : goal.slice_bounds-put_word-count
slice_bounds-put_word-count c = omega (arith, c.requires.0.first)

pub put_word-a-requires : goal.put_word-a-requires
put_word-a-requires c = left-room (all (goal.at.put_word-a-requires c).Start)

pub put_number-b-requires : goal.put_number-b-requires
put_number-b-requires c = left-room (one (goal.at.put_number-b-requires c).After-put_word-a)

pub slice_bounds-put_word-count-2 : goal.slice_bounds-put_word-count-2
slice_bounds-put_word-count-2 c = let o = (first (second (goal.at.slice_bounds-put_word-count-2 c).After-put_number-b)).requires.0 in omega (arith, o.last)

pub put_word-requires : goal.put_word-requires
put_word-requires c = last-room (two (goal.at.put_word-requires c).After-put_number-b)

pub returns : goal.returns
returns c = left-last (two (goal.at.returns c).After-put_number-b) c.put_word.ensures
