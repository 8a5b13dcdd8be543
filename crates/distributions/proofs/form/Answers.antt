-- `distributions::form` meets its contract.
use mathlib.Core.Path.{sym, ◌∙◌, ap}
use Rattle.laws.proofs.Exits.{handed-on}
use Rattle.fields.specs.Fields.{past}
use Rattle.distributions.specs.Found.{got_law}
use Rattle.distributions.proofs.FormLaws.{form-uni, form-mix, form-none}
use Rattle.distributions.proofs.form.Goals as goal

pub returns-in-Ok : goal.returns-in-Ok
returns-in-Ok c = let t = c.args.text.now in
    c.uniform.ensures ∙ form-uni _ (sym c.word.ensures ∙ ap (past t) c.in-Ok.is)

pub returns : goal.returns
returns c = let t = c.args.text.now in
    c.mixture.ensures ∙ form-mix _ (sym c.word.ensures ∙ ap (past t) c.in_default.is) (sym c.word-2.ensures ∙ ap (past t) c.in_ok-d.was)

pub returns-in_err-d : goal.returns-in_err-d
returns-in_err-d c = let t = c.args.text.now in
    ap (got_law t) (handed-on _ c.from_residual.ensures.1)
    ∙ form-none _ (sym c.word.ensures ∙ ap (past t) c.in_default.is) (sym c.word-2.ensures ∙ ap (past t) c.in_err-d.was)
