-- `distributions::form_field` meets its contract.
use mathlib.Core.Path.{sym, ◌∙◌, ap}
use Rattle.laws.proofs.Exits.{handed-on}
use Rattle.fields.specs.Fields.{past}
use Rattle.fields.proofs.ScanLaws.{then-stops, then_is}
use Rattle.drawing.specs.File.{form_at}
use Rattle.distributions.specs.Found.{got_law}
use Rattle.distributions.proofs.form_field.Goals as goal

pub returns : goal.returns
returns c = let t = c.args.text.now in
    c.form.ensures ∙ sym (then_is (λ _ cs. form_at cs) (sym c.byte.ensures ∙ ap (past t) c.in_ok-d.was))

pub returns-in_err-d : goal.returns-in_err-d
returns-in_err-d c = let t = c.args.text.now in
    ap (got_law t) (handed-on _ c.from_residual.ensures.1)
    ∙ sym (then-stops (λ _ cs. form_at cs) (sym c.byte.ensures ∙ ap (past t) c.in_err-d.was))
