-- `namelines::row_tail` meets its contract.
use mathlib.Core.Path.{sym, ◌∙◌, ap}
use lib.ListN.{drop}
use Rattle.laws.proofs.Exits.{handed-on}
use Rattle.fields.specs.Fields.{got_number}
use Rattle.fields.specs.Resets.{got_resets}
use Rattle.namelines.specs.NamedLines.{got_named}
use Rattle.namelines.proofs.NamedLaws.{end-no-1, end-no-2, end-are}
use Rattle.namelines.proofs.row_tail.Goals as goal

pub returns : goal.returns
returns c = let a = c.args in
    let t = a.text.now in
    let e0 = sym c.resets_field.ensures ∙ ap (got_resets t) c.in_ok-c4.was in
    let e1 = sym c.number_field.ensures ∙ ap (got_number t) c.in_ok-c5.was in
    c.line_end.ensures ∙ end-are a.from a.guard (drop a.c.at t) e0 e1

pub returns-in_err-c5 : goal.returns-in_err-c5
returns-in_err-c5 c = let a = c.args in
    let t = a.text.now in
    let e0 = sym c.resets_field.ensures ∙ ap (got_resets t) c.in_ok-c4.was in
    ap (got_named t) (handed-on _ c.from_residual-in_err-c5.ensures.1) ∙ end-no-2 a.from a.guard (drop a.c.at t) e0 (sym c.number_field.ensures
    ∙ ap (got_number t)
    c.in_err-c5.was)

pub returns-in_err-c4 : goal.returns-in_err-c4
returns-in_err-c4 c = let a = c.args in
    let t = a.text.now in
    ap (got_named t) (handed-on _ c.from_residual.ensures.1) ∙ end-no-1 a.from a.guard (drop a.c.at t) (sym c.resets_field.ensures ∙ ap (got_resets t)
    c.in_err-c4.was)
