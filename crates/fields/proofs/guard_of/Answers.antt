-- `fields::guard_of` meets its contract.
use mathlib.Core.Path.{sym, ◌∙◌, ap}
use mathlib.Core.Option.{some}
use lib.ListN.{drop}
use Rattle.laws.proofs.Exits.{handed-on}
use Rattle.model.specs.Reading.{got}
use Rattle.fields.specs.Fields.{past, got_number, got_guard}
use Rattle.fields.proofs.ScanLaws.{then-stops, then_is}
use Rattle.fields.proofs.FieldLaws.{guard-dash, guard-clock}
use Rattle.fields.proofs.guard_of.Goals as goal

pub returns-in-Ok : goal.returns-in-Ok
returns-in-Ok c = let a = c.args in
    sym (guard-dash (drop a.c.at a.text.now) (sym c.byte.ensures ∙ ap (past a.text.now) c.in-Ok.is))

pub returns : goal.returns
returns c = let a = c.args in
    let t = a.text.now in
    let n = sym c.number.ensures ∙ ap (got_number t) c.in_ok-end.was in
    let e = guard-clock (drop a.c.at t) (sym c.byte.ensures ∙ ap (past t) c.in_default.is) in
    sym (e ∙ then_is (λ x cs. got (some x) cs) n)

pub returns-in_err-end : goal.returns-in_err-end
returns-in_err-end c = let a = c.args in
    let t = a.text.now in
    let n = sym c.number.ensures ∙ ap (got_number t) c.in_err-end.was in
    let e = guard-clock (drop a.c.at t) (sym c.byte.ensures ∙ ap (past t) c.in_default.is) in
    ap (got_guard t) (handed-on _ c.from_residual.ensures.1) ∙ sym (e ∙ then-stops (λ x cs. got (some x) cs) n)
