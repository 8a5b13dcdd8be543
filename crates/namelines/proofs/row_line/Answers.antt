-- `namelines::row_line` meets its contract.
use mathlib.Core.Path.{sym, ◌∙◌, ap}
use lib.ListN.{drop}
use Rattle.laws.proofs.Exits.{handed-on}
use Rattle.model.specs.Reading.{field}
use Rattle.fields.specs.Fields.{past, got_number, got_guard}
use Rattle.lines.proofs.LineLaws.{guard-back}
use Rattle.named.specs.NamedText.{name_scan}
use Rattle.namelines.specs.NamedLines.{got_named}
use Rattle.namelines.proofs.NamedLaws.{passed_is, passed-stops, row-no-1, row-no-2, row-no-3, row-are}
use Rattle.namelines.proofs.row_line.Goals as goal

pub returns : goal.returns
returns c = let a = c.args in
    let t = a.text.now in
    let e0 = sym c.number_field.ensures ∙ ap (got_number t) c.in_ok-c1.was in
    let e1 = sym c.guard_field.ensures ∙ ap (got_guard t) c.in_ok-c2.was in
    let e2 = passed_is (field name_scan _) (sym c.name_field.ensures ∙ ap (past t) c.in_ok-c3.was) in
    c.row_tail.ensures ∙ row-are (drop a.c.at t) e0 e1 e2.1 (guard-back c.in_ok-c2.guard)

pub returns-in_err-c3 : goal.returns-in_err-c3
returns-in_err-c3 c = let a = c.args in
    let t = a.text.now in
    let e0 = sym c.number_field.ensures ∙ ap (got_number t) c.in_ok-c1.was in
    let e1 = sym c.guard_field.ensures ∙ ap (got_guard t) c.in_ok-c2.was in
    ap (got_named t) (handed-on _ c.from_residual-in_err-c3.ensures.1)
    ∙ row-no-3 (drop a.c.at t) e0 e1 (passed-stops (field name_scan _) (sym c.name_field.ensures ∙ ap (past t)
    c.in_err-c3.was))

pub returns-in_err-c2 : goal.returns-in_err-c2
returns-in_err-c2 c = let a = c.args in
    let t = a.text.now in
    let e0 = sym c.number_field.ensures ∙ ap (got_number t) c.in_ok-c1.was in
    ap (got_named t) (handed-on _ c.from_residual-in_err-c2.ensures.1) ∙ row-no-2 (drop a.c.at t) e0 (sym c.guard_field.ensures
    ∙ ap (got_guard t) c.in_err-c2.was)

pub returns-in_err-c1 : goal.returns-in_err-c1
returns-in_err-c1 c = let a = c.args in
    let t = a.text.now in
    ap (got_named t) (handed-on _ c.from_residual.ensures.1) ∙ row-no-1 (drop a.c.at t) (sym c.number_field.ensures ∙ ap (got_number t) c.in_err-c1.was)
