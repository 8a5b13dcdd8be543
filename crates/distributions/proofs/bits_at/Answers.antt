-- `distributions::bits_at` meets its contract.
use mathlib.Core.Path.{sym, ◌∙◌, ap}
use Rattle.laws.proofs.Exits.{handed-on}
use Rattle.fields.specs.Fields.{got_number}
use Rattle.distributions.specs.Found.{got_real}
use Rattle.distributions.proofs.FormLaws.{no-digits, is_number, is_nan}
use Rattle.distributions.proofs.bits_at.Goals as goal

pub returns-in-Some : goal.returns-in-Some
returns-in-Some c = let t = c.args.text.now in
    is_number _ (sym c.hex.ensures ∙ ap (got_number t) c.in_ok-d.was) _ (sym c.real_of.ensures ∙ c.in-Some.is)

pub returns-in-None : goal.returns-in-None
returns-in-None c = let t = c.args.text.now in
    is_nan _ (sym c.hex.ensures ∙ ap (got_number t) c.in_ok-d.was) (sym c.real_of.ensures ∙ c.in-None.is)

pub returns-in_err-d : goal.returns-in_err-d
returns-in_err-d c = let t = c.args.text.now in
    ap (got_real t) (handed-on _ c.from_residual.ensures.1) ∙ no-digits _ (sym c.hex.ensures ∙ ap (got_number t) c.in_err-d.was)
