-- `lines::act_line` meets its contract.
use mathlib.Core.Path.{sym, ◌∙◌, ap}
use lib.ListN.{drop}
use Rattle.laws.proofs.Exits.{handed-on}
use Rattle.model.specs.Reading.{kind, act-entry, act_entry}
use Rattle.fields.specs.Fields.{got_number, got_kind}
use Rattle.lines.specs.declared.Line.TheVariants.{Act}
use Rattle.lines.specs.Lines.{got_line}
use Rattle.lines.proofs.LineLaws.{two-no-1, two-no-2, two-are, kind-back}
use Rattle.lines.proofs.act_line.Goals as goal

pub returns : goal.returns
unfolding act_entry
returns c = let a = c.args in
    let t = a.text.now in
    let e0 = sym c.number_field.ensures ∙ ap (got_number t) c.in_ok-c1.was in
    let e1 = sym c.kind_field.ensures ∙ ap (got_kind t) c.in_ok-c2.was in
    c.line_end.ensures ∙ two-are kind act-entry (drop a.c.at t) e0 e1 (ap (λ k. Act c.in_ok-c1.action k) (kind-back
    c.in_ok-c2.kind))

pub returns-in_err-c2 : goal.returns-in_err-c2
unfolding act_entry
returns-in_err-c2 c = let a = c.args in
    let t = a.text.now in
    let e0 = sym c.number_field.ensures ∙ ap (got_number t) c.in_ok-c1.was in
    ap (got_line t) (handed-on _ c.from_residual-in_err-c2.ensures.1) ∙ two-no-2 kind act-entry (drop a.c.at t) e0 (sym c.kind_field.ensures
    ∙ ap (got_kind t) c.in_err-c2.was)

pub returns-in_err-c1 : goal.returns-in_err-c1
unfolding act_entry
returns-in_err-c1 c = let a = c.args in
    let t = a.text.now in
    ap (got_line t) (handed-on _ c.from_residual.ensures.1) ∙ two-no-1 kind act-entry (drop a.c.at t) (sym c.number_field.ensures
    ∙ ap (got_number t) c.in_err-c1.was)
