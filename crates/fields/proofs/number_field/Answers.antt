-- `fields::number_field` meets its contract.
use mathlib.Core.Path.{sym, ◌∙◌, ap}
use Rattle.laws.proofs.Exits.{handed-on}
use Rattle.model.specs.Reading.{number}
use Rattle.fields.specs.Fields.{past, got_number}
use Rattle.fields.proofs.ScanLaws.{then-stops, then_is}
use Rattle.fields.proofs.number_field.Goals as goal

pub returns : goal.returns
returns c = let t = c.args.text.now in
    c.number.ensures ∙ sym (then_is (λ _ cs. number cs) (sym c.byte.ensures ∙ ap (past t) c.in_ok-d.was))

pub returns-in_err-d : goal.returns-in_err-d
returns-in_err-d c = let t = c.args.text.now in
    ap (got_number t) (handed-on _ c.from_residual.ensures.1) ∙ sym (then-stops (λ _ cs. number cs) (sym c.byte.ensures ∙ ap (past t) c.in_err-d.was))
