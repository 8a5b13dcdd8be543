-- `namelines::form_line` meets its contract.
use mathlib.Core.Path.{sym, ◌∙◌, ap}
use lib.ListN.{drop}
use Rattle.laws.proofs.Exits.{handed-on}
use Rattle.fields.specs.Fields.{past}
use Rattle.namelines.specs.NamedLines.{got_named}
use Rattle.namelines.proofs.NamedLaws.{form-is, form-no}
use Rattle.namelines.proofs.form_line.Goals as goal

pub returns : goal.returns
returns c = let a = c.args in
    let t = a.text.now in
    form-is (drop a.c.at t) (sym c.word.ensures ∙ ap (past t) c.in_ok-d.was)

pub returns-in_err-d : goal.returns-in_err-d
returns-in_err-d c = let a = c.args in
    let t = a.text.now in
    ap (got_named t) (handed-on _ c.from_residual.ensures.1) ∙ form-no (drop a.c.at t) (sym c.word.ensures ∙ ap (past t) c.in_err-d.was)
