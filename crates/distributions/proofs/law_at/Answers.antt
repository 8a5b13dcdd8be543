-- `distributions::law_at` meets its contract.
use mathlib.Core.Path.{sym, ◌∙◌, ap}
use Rattle.laws.proofs.Exits.{handed-on}
use Rattle.distributions.specs.Found.{got_law}
use Rattle.distributions.proofs.FormLaws.{law-none, law-is, law-not}
use Rattle.distributions.proofs.law_at.Goals as goal

pub returns-then-is_lawful : goal.returns-then-is_lawful
returns-then-is_lawful c = let t = c.args.text.now in
    law-is _ (sym c.form_field.ensures ∙ ap (got_law t) c.in_ok-d.was) (sym c.is_lawful.ensures ∙ c.if-is_lawful.true)

pub returns-else-is_lawful : goal.returns-else-is_lawful
returns-else-is_lawful c = let t = c.args.text.now in
    law-not _ (sym c.form_field.ensures ∙ ap (got_law t) c.in_ok-d.was) (sym c.is_lawful.ensures ∙ c.if-is_lawful.false)

pub returns-in_err-d : goal.returns-in_err-d
returns-in_err-d c = let t = c.args.text.now in
    ap (got_law t) (handed-on _ c.from_residual.ensures.1) ∙ law-none _ (sym c.form_field.ensures ∙ ap (got_law t) c.in_err-d.was)
