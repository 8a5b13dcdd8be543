-- `namelines::act_line` meets its contract.
use mathlib.Core.Path.{sym, ◌∙◌, ap}
use lib.ListN.{drop}
use Rattle.laws.proofs.Exits.{handed-on}
use Rattle.model.specs.Reading.{kind, field}
use Rattle.fields.specs.Fields.{past, got_kind}
use Rattle.lines.proofs.LineLaws.{kind-back}
use Rattle.named.specs.NamedText.{name_scan, act-line, act_end}
use Rattle.namelines.specs.declared.NamedLine.TheVariants.{Act}
use Rattle.namelines.specs.NamedLines.{got_named}
use Rattle.namelines.proofs.NamedLaws.{passed_is, passed-stops, two-no-1, two-no-2, two-are}
use Rattle.namelines.proofs.act_line.Goals as goal

pub returns : goal.returns
unfolding act_end
returns c = let a = c.args in
    let t = a.text.now in
    let e0 = passed_is (field name_scan _) (sym c.name_field.ensures ∙ ap (past t) c.in_ok-c1.was) in
    let e1 = sym c.kind_field.ensures ∙ ap (got_kind t) c.in_ok-c2.was in
    c.line_end.ensures ∙ two-are name_scan kind act-line (drop a.c.at t) e0.1 e1 (ap Act (kind-back c.in_ok-c2.kind))

pub returns-in_err-c2 : goal.returns-in_err-c2
unfolding act_end
returns-in_err-c2 c = let a = c.args in
    let t = a.text.now in
    let e0 = passed_is (field name_scan _) (sym c.name_field.ensures ∙ ap (past t) c.in_ok-c1.was) in
    ap (got_named t) (handed-on _ c.from_residual-in_err-c2.ensures.1) ∙ two-no-2 name_scan kind act-line (drop a.c.at t) e0.1
    (sym c.kind_field.ensures ∙ ap (got_kind t) c.in_err-c2.was)

pub returns-in_err-c1 : goal.returns-in_err-c1
unfolding act_end
returns-in_err-c1 c = let a = c.args in
    let t = a.text.now in
    ap (got_named t) (handed-on _ c.from_residual.ensures.1)
    ∙ two-no-1 name_scan kind act-line (drop a.c.at t) (passed-stops (field name_scan _) (sym c.name_field.ensures ∙ ap (past t)
    c.in_err-c1.was))
