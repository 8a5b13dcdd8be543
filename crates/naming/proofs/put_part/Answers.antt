-- `naming::put_part` meets its contract: the bytes before the action, `a` where there is one, and the bytes from the action on.
use mathlib.Core.Path.{refl}
use mathlib.Core.List.{List, ◌++◌}
use native.Mathlib.Omega.{arith}
use Prim.Native.Nat.{ℕ, ◌+◌, ◌-◌, ◌≤◌}
use lib.ListN.{take, drop}
use Rattle.print.proofs.LaidLaws.{Left, Next, left-all, left_as, left-room, left-next, left-last, last-room}
use Rattle.cutlaws.proofs.CutLaws.{three-parts}
use Rattle.naminglaws.specs.Naming.{letter_part}
use Rattle.naminglaws.proofs.Walks.{part-inside}
use Rattle.naming.specs.Parts.{part_bytes}
use Rattle.naming.proofs.put_part.Goals as goal
use Rattle.naming.proofs.put_part.Goals.{After-put_letter-b, After-put_word-a, Start}

abbrev before : Start → List ℕ
before c = let a = c.args in take ((a.at + a.p.place) - a.at) (drop a.at a.text.now)

abbrev letter : Start → List ℕ
letter c = letter_part c.args.p.place

abbrev behind : Start → List ℕ
behind c = let a = c.args in take (a.p.next - (a.at + a.p.place)) (drop (a.at + a.p.place) a.text.now)

abbrev whole : Start → List ℕ
whole c = let a = c.args in part_bytes a.text.now a.at a.p

abbrev out : Start → List ℕ
out c = c.args.out.now

abbrev place : Start → ℕ
place c = c.args.to

inside : (c : Start) → let a = c.args in a.at + a.p.place ≤ a.p.next
inside c = let a = c.args in part-inside a.text.now a.at a.p.place a.p.declares a.p.next c.requires.0

-- ---- what is left after each of them
all : (c : Start) → Next (out c) (place c) (whole c) (out c) (place c) (before c) (letter c ++ behind c)
all c =
    let a = c.args in
    let s = a.at + a.p.place in
    left_as (left-all (out c) (place c) (whole c) c.requires.1) (before c) (letter c ++ behind c)
    (three-parts a.text.now a.at s s a.p.next (letter c) (omega arith) (inside c))

abbrev first : After-put_word-a → Start
first c = (goal.at.After-put_word-a c).Start

one : (c : After-put_word-a) → let s = first c in Next (out s) (place s) (whole s) c.put_word-a.new.out c.put_word-a.result (letter s) (behind s)
one c = let s = first c in left_as (left-next (all s) c.put_word-a.ensures) (letter s) (behind s) refl

abbrev second : After-put_letter-b → After-put_word-a
second c = (goal.at.After-put_letter-b c).After-put_word-a

two : (c : After-put_letter-b) → let s = first (second c) in Left (out s) (place s) (whole s) c.put_letter-b.new.out c.put_letter-b.result (behind s)
two c = left-next (one (second c)) c.put_letter-b.ensures

pub overflow_add-stop : goal.overflow_add-stop
overflow_add-stop c = omega (arith, inside (goal.at.overflow_add-stop c).Start, c.requires.0.inside)

pub slice_bounds-put_word-count : goal.slice_bounds-put_word-count
slice_bounds-put_word-count c = omega arith

pub slice_bounds-put_word-end : goal.slice_bounds-put_word-end
slice_bounds-put_word-end c = omega (arith, inside (goal.at.slice_bounds-put_word-end c).Start, c.requires.0.inside)

pub put_word-a-requires : goal.put_word-a-requires
put_word-a-requires c = left-room (all (goal.at.put_word-a-requires c).Start)

pub put_letter-b-requires : goal.put_letter-b-requires
put_letter-b-requires c = left-room (one (goal.at.put_letter-b-requires c).After-put_word-a)

pub slice_bounds-put_word-count-2 : goal.slice_bounds-put_word-count-2
slice_bounds-put_word-count-2 c = omega (arith, inside (first (second (goal.at.slice_bounds-put_word-count-2 c).After-put_letter-b)))

pub slice_bounds-put_word-start-2 : goal.slice_bounds-put_word-start-2
slice_bounds-put_word-start-2 c = omega (arith, inside (first (second (goal.at.slice_bounds-put_word-start-2 c).After-put_letter-b)))

pub put_word-requires : goal.put_word-requires
put_word-requires c = last-room (two (goal.at.put_word-requires c).After-put_letter-b)

pub returns : goal.returns
returns c = left-last (two (goal.at.returns c).After-put_letter-b) c.put_word.ensures
