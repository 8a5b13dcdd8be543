-- `namesheet::name_at` meets its contract.
use mathlib.Core.Path.{◌≡◌, sym, ◌∙◌, ap, subst}
use mathlib.Core.List.{List}
use Prim.Native.Nat.{ℕ, ◌+◌, ◌≤◌}
use native.Mathlib.Omega.{arith}
use lib.ListN.{drop}
use Rattle.lines.proofs.LineLaws.{valued-stops}
use Rattle.answer.specs.declared.Place.TheVariants.{Spot}
use Rattle.named.specs.NamedText.{line}
use Rattle.namefields.specs.NameFields.{name_from}
use Rattle.namelines.specs.declared.NamedLine.{NamedLine}
use Rattle.namelines.specs.NamedLines.{code_of, got_named, before_name}
use Rattle.namelaws.specs.Sheets.{sheet_of, number_in, name_fault, with_sheet, onward, NameFine, Refuses}
use Rattle.namelaws.proofs.NameTurns.{NamedAt, named-at, begins-inside, no-shape, name-refused, name-fine}
use Rattle.namesheet.proofs.name_at.Goals as goal
use Rattle.namesheet.proofs.name_at.Goals.{After-before_name, In-Ok}

-- ---- where a line was scanned
abbrev text_at : In-Ok → List ℕ
text_at c = c.args.text.now

abbrev line_at : In-Ok → NamedLine
line_at c = c.in-Ok.line

abbrev next_at : In-Ok → ℕ
next_at c = c.in-Ok.next.at

abbrev place_at : In-Ok → ℕ
place_at c = c.args.at

here : (c : In-Ok) → NamedAt (text_at c) (place_at c) (line_at c) (next_at c)
here c =
    named-at (text_at c) (place_at c) (line_at c) (next_at c) c.requires.1
    (sym c.line_at.ensures ∙ ap (got_named (text_at c)) c.in-Ok.is)

-- ---- behind the measure of what stands before the name
abbrev known : After-before_name → In-Ok
known c = (goal.at.After-before_name c).In-Ok

number_is : (c : After-before_name) → c.number_in-number.result ≡ (here (known c)).number
number_is c = c.number_in-number.ensures ∙ ap number_in (here (known c)).code

abbrev name_at : After-before_name → ℕ
name_at c = place_at (known c) + c.before_name.result

pub overflow_add-place : goal.overflow_add-place
overflow_add-place c = let k = known c in
    omega (arith, (here k).place.inside, c.before_name.ensures, k.fits-places)

pub name_fault-fault-requires : goal.name_fault-fault-requires
name_fault-fault-requires c = c.requires.0.long

pub returns-then-fault-ne0 : goal.returns-then-fault-ne0
returns-then-fault-ne0 c = let k = known (goal.at.returns-then-fault-ne0 c).After-before_name in
    let a = k.args in
    let t = text_at k in
    let P = a.places.now in
    let h = here k in
    let s = k.requires.0 in
    let e = c.name_fault-fault.ensures ∙ ap (λ i. name_fault t P a.low i (name_at (goal.at.returns-then-fault-ne0 c).After-before_name)) (number_is (goal.at.returns-then-fault-ne0 c).After-before_name) in
    let name = ap (λ i. name_from t (a.at + i)) c.before_name.ensures ∙ h.place.name in
    subst (Refuses _) (sym c.name_refusal.ensures)
    (name-refused t P a.low a.at a.n s h.number (name_at (goal.at.returns-then-fault-ne0 c).After-before_name) (next_at k) h.name h.read
    name c.name_fault-fault.result e c.if-fault-ne0.true)

pub column_at-requires : goal.column_at-requires
column_at-requires c = omega (arith, begins-inside c.args.text.now c.args.at c.requires.1)

pub returns-else-fault-ne0 : goal.returns-else-fault-ne0
returns-else-fault-ne0 c = let k = known (goal.at.returns-else-fault-ne0 c).After-before_name in
    let a = k.args in
    let t = text_at k in
    let P = a.places.now in
    let h = here k in
    let s = k.requires.0 in
    let e = sym (c.name_fault-fault.ensures ∙ ap (λ i. name_fault t P a.low i (name_at (goal.at.returns-else-fault-ne0 c).After-before_name)) (number_is (goal.at.returns-else-fault-ne0 c).After-before_name)) ∙ c.if-fault-ne0.false in
    let name = ap (λ i. name_from t (a.at + i)) c.before_name.ensures ∙ h.place.name in
    let p : 1 ≤ name_at (goal.at.returns-else-fault-ne0 c).After-before_name = omega (arith, c.before_name.ensures, ap before_name h.code) in
    subst (λ i. NameFine t P a.low a.at i (name_at (goal.at.returns-else-fault-ne0 c).After-before_name) (next_at k)) (sym (number_is (goal.at.returns-else-fault-ne0 c).After-before_name))
    (name-fine t P a.low a.at a.n s h.number (name_at (goal.at.returns-else-fault-ne0 c).After-before_name) (next_at k) h.name h.read name e p)

pub returns-in-Err : goal.returns-in-Err
returns-in-Err c = let a = c.args in
    let t = a.text.now in
    let e = valued-stops code_of (line (drop a.at t)) (sym c.line_at.ensures ∙ ap (got_named t) c.in-Err.is) in
    subst (λ k. Refuses (onward t (with_sheet (sheet_of t a.places.now)) a.at a.n) (record { number = 2; place = Spot a.n k }))
    (sym c.column_at.ensures)
    (no-shape t a.places.now a.low a.at a.n c.requires.0 _ c.requires.1 e)
