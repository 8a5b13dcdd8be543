-- `namelines::name_field` meets its contract.
use mathlib.Core.Path.{sym, ◌∙◌, ap}
use lib.ListN.{drop}
use Rattle.laws.proofs.Exits.{handed-on}
use Rattle.fields.specs.Fields.{past}
use Rattle.namelines.proofs.NamedLaws.{name-field-is, name-field-no}
use Rattle.namelines.proofs.name_field.Goals as goal

pub returns : goal.returns
returns c = let a = c.args in
    let t = a.text.now in
    name-field-is t (drop a.c.at t) _ (sym c.byte.ensures
    ∙ ap (past t) c.in_ok-d.was) _ c.name_end.ensures

pub returns-in_err-d : goal.returns-in_err-d
returns-in_err-d c = let a = c.args in
    let t = a.text.now in
    ap (past t) (handed-on _ c.from_residual.ensures.1) ∙ name-field-no (drop a.c.at t) (sym c.byte.ensures ∙ ap (past t) c.in_err-d.was)
