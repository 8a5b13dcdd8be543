-- `namesheet::read_names` meets its contract. The loop's invariant: reading goes on here with the names so far as it did from the first line.
use mathlib.Core.Path.{sym, ◌∙◌, subst}
use mathlib.Core.List.{List}
use Prim.Native.Nat.{ℕ}
use native.Mathlib.Omega.{arith}
use Rattle.laws.proofs.Exits.{handed-on}
use Rattle.namelaws.specs.Sheets.{NameFine}
use Rattle.namesheet.specs.Sheets.{NameAs, Sheets}
use Rattle.namelaws.proofs.NameTurns.{between_first, between-refused, between-end, between-less, between_next}
use Rattle.namesheet.proofs.read_names.Goals as goal
use Rattle.namesheet.proofs.read_names.Goals.{In_ok-l}

abbrev number_at : In_ok-l → ℕ
number_at c = c.in_ok-l.l.number

abbrev place_at : In_ok-l → ℕ
place_at c = c.in_ok-l.l.place

abbrev next_at : In_ok-l → ℕ
next_at c = c.in_ok-l.l.next

abbrev text_at : In_ok-l → List ℕ
text_at c = c.args.text.now

fine : (c : In_ok-l)
    → let l = c.loop-places in
    NameFine (text_at c) l.places l.low l.at (number_at c) (place_at c) (next_at c)
fine c =
    let l = c.loop-places in
    subst (NameAs (text_at c) l.places l.low l.at l.n) c.in_ok-l.was c.name_at.ensures

pub loop-places-init : goal.loop-places-init
loop-places-init c = between_first c.args.text.now c.args.from c.args.places.now c.requires.1 c.requires.2

pub name_at-requires : goal.name_at-requires
name_at-requires c = (c.loop-places.invariant.so_far, sym c.begins_name.ensures ∙ c.loop-places-test.true)

pub offset_bounds-places-l : goal.offset_bounds-places-l
offset_bounds-places-l c = omega (arith, (fine c).below)

pub bounds-places-l : goal.bounds-places-l
bounds-places-l c = let l = c.loop-places in
    omega (arith, (fine (goal.at.bounds-places-l c).In_ok-l).below, l.invariant.so_far.long)

pub overflow_add-low : goal.overflow_add-low
overflow_add-low c = omega (arith, (fine (goal.at.overflow_add-low c).In_ok-l).below)

pub overflow_add-n : goal.overflow_add-n
overflow_add-n c = omega (arith, c.loop-places.invariant.count, c.requires.3)

pub loop-places-smaller : goal.loop-places-smaller
loop-places-smaller c = let l = c.loop-places in
    between-less (text_at (goal.at.loop-places-smaller c).In_ok-l) _ l.places l.at l.n l.low l.invariant (number_at (goal.at.loop-places-smaller c).In_ok-l) (place_at (goal.at.loop-places-smaller c).In_ok-l) (next_at (goal.at.loop-places-smaller c).In_ok-l) (fine (goal.at.loop-places-smaller c).In_ok-l)

pub loop-places-preserved : goal.loop-places-preserved
loop-places-preserved c = let l = c.loop-places in
    between_next (text_at (goal.at.loop-places-preserved c).In_ok-l) _ l.places l.at l.n l.low l.invariant (number_at (goal.at.loop-places-preserved c).In_ok-l) (place_at (goal.at.loop-places-preserved c).In_ok-l) (next_at (goal.at.loop-places-preserved c).In_ok-l) (fine (goal.at.loop-places-preserved c).In_ok-l)

pub returns-in_err-l : goal.returns-in_err-l
returns-in_err-l c = let l = c.loop-places in
    let t = c.args.text.now in
    subst (Sheets t c.args.from l.places) (sym (handed-on _ c.from_residual.ensures.1))
    (between-refused t _ l.places l.at l.n l.low l.invariant _
    (subst (NameAs t l.places l.low l.at l.n) c.in_err-l.was c.name_at.ensures))

pub returns : goal.returns
returns c = let l = c.loop-places in
    between-end c.args.text.now _ l.places l.at l.n l.low l.invariant (sym c.begins_name.ensures ∙ c.loop-places-test.false)
