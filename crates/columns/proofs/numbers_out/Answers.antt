-- `columns::numbers_out` meets its contract. The loop's invariant: the search from here on finds what the search from the start finds.
use mathlib.Core.Path.{sym, ◌∙◌, ap}
use native.Mathlib.Omega.{arith}
use Rattle.fields.specs.Fields.{got_number}
use Rattle.columns.proofs.OutLaws.{looking-first, out-end, out-stops, out-here, out-last, out-behind, out-more, out-less}
use Rattle.columns.proofs.numbers_out.Goals as goal

pub loop-i-init : goal.loop-i-init
loop-i-init c = let a = c.args in looking-first a.set a.text.now a.at

pub returns-then-not-is_in : goal.returns-then-not-is_in
returns-then-not-is_in c = let l = c.loop-i in
    let a = c.args in
    let t = a.text.now in
    let v = c.in-Ok in
    let read = sym c.number.ensures ∙ ap (got_number t) c.in-Ok.is in
    out-here a.set t a.at l.i l.invariant v.n v.next.at read (sym c.is_in.ensures ∙ c.if-not-is_in.true)

pub returns-then-text-end : goal.returns-then-text-end
returns-then-text-end c = let l = c.loop-i in
    let a = c.args in
    let t = a.text.now in
    let v = c.in-Ok in
    let read = sym c.number.ensures ∙ ap (got_number t) c.in-Ok.is in
    let p = c.is_in in
    out-last a.set t a.at l.i l.invariant v.n v.next.at read (sym p.ensures ∙ c.if-not-is_in.false) c.if-text-end.true

pub bounds-text-end : goal.bounds-text-end
bounds-text-end c = omega arith

pub overflow_add-result : goal.overflow_add-result
overflow_add-result c = omega arith

pub returns-then-text-end-ne-COMMA : goal.returns-then-text-end-ne-COMMA
returns-then-text-end-ne-COMMA c = let l = c.loop-i in
    let a = c.args in
    let t = a.text.now in
    let v = c.in-Ok in
    let read = sym c.number.ensures ∙ ap (got_number t) c.in-Ok.is in
    let p = c.is_in in
    let in-it = sym p.ensures ∙ c.if-not-is_in.false in
    out-behind a.set t a.at l.i l.invariant v.n v.next.at read in-it (omega arith) c.if-text-end-ne-COMMA.true

pub overflow_add-i : goal.overflow_add-i
overflow_add-i c = omega arith

pub loop-i-smaller : goal.loop-i-smaller
loop-i-smaller c = let l = c.loop-i in
    let a = c.args in
    let t = a.text.now in
    let v = c.in-Ok in
    let read = sym c.number.ensures ∙ ap (got_number t) c.in-Ok.is in
    let p = c.is_in in
    let in-it = sym p.ensures ∙ c.if-not-is_in.false in
    out-less a.set t a.at l.i l.invariant v.n v.next.at read in-it (omega arith)

pub loop-i-preserved : goal.loop-i-preserved
loop-i-preserved c = let l = c.loop-i in
    let a = c.args in
    let t = a.text.now in
    let v = c.in-Ok in
    let read = sym c.number.ensures ∙ ap (got_number t) c.in-Ok.is in
    let p = c.is_in in
    let in-it = sym p.ensures ∙ c.if-not-is_in.false in
    out-more a.set t a.at l.i l.invariant v.n v.next.at read in-it (omega arith) c.if-text-end-ne-COMMA.false

pub returns-in_default : goal.returns-in_default
returns-in_default c = let l = c.loop-i in
    let a = c.args in
    let t = a.text.now in
    out-stops a.set t a.at l.i l.invariant _ (sym c.number.ensures ∙ ap (got_number t) c.in_default.is)

pub returns : goal.returns
returns c = let a = c.args in
    let l = c.loop-i in
    out-end a.set a.text.now a.at l.i l.invariant c.loop-i-test.false
