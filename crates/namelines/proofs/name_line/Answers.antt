-- `namelines::name_line` meets its contract.
use mathlib.Core.Path.{refl, sym, ◌∙◌, ap}
use lib.ListN.{drop}
use Rattle.laws.proofs.Exits.{handed-on}
use Rattle.model.specs.Reading.{number, field}
use Rattle.fields.specs.Fields.{past, got_number}
use Rattle.named.specs.NamedText.{name_scan, name-line, name_end}
use Rattle.namelines.specs.NamedLines.{got_named}
use Rattle.namelines.proofs.NamedLaws.{passed_is, passed-stops, two-no-1, two-no-2, two-are}
use Rattle.namelines.proofs.name_line.Goals as goal

pub returns : goal.returns
unfolding name_end
returns c = let a = c.args in
    let t = a.text.now in
    let e0 = sym c.number_field.ensures ∙ ap (got_number t) c.in_ok-c1.was in
    let e1 = passed_is (field name_scan _) (sym c.name_field.ensures ∙ ap (past t) c.in_ok-c2.was) in
    c.line_end.ensures ∙ two-are number name_scan name-line (drop a.c.at t) e0 e1.1 refl

pub returns-in_err-c2 : goal.returns-in_err-c2
unfolding name_end
returns-in_err-c2 c = let a = c.args in
    let t = a.text.now in
    let e0 = sym c.number_field.ensures ∙ ap (got_number t) c.in_ok-c1.was in
    ap (got_named t) (handed-on _ c.from_residual-in_err-c2.ensures.1) ∙ two-no-2 number name_scan name-line (drop a.c.at t) e0
    (passed-stops (field name_scan _) (sym c.name_field.ensures ∙ ap (past t) c.in_err-c2.was))

pub returns-in_err-c1 : goal.returns-in_err-c1
unfolding name_end
returns-in_err-c1 c = let a = c.args in
    let t = a.text.now in
    ap (got_named t) (handed-on _ c.from_residual.ensures.1) ∙ two-no-1 number name_scan name-line (drop a.c.at t)
    (sym c.number_field.ensures ∙ ap (got_number t) c.in_err-c1.was)
